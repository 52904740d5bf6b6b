-- `fits_headers::put_headers` meets its contract. What is left to write is the places from `place` on.
use Rattle.std.proofs.Common.{◌*◌}
use Rattle.lists.specs.Writes.{Filling}
use Rattle.fits_headers.specs.Headers.{headers}
use Rattle.fits_headers.specs.Places.{places_from}
use Rattle.fits_headers.proofs.put_headers.Given as goal

abbrev pub invariant-loop-place : goal.invariant-loop-place
invariant-loop-place l = Filling l.initial.out 0 (headers l.rows) l.out (80 * l.place) (places_from l.rows l.place)
