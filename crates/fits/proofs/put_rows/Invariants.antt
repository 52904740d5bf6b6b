-- `fits::put_rows` meets its contract. What is left to write is the cells of the kept words from the i-th on.
use Rattle.std.proofs.Common.{◌+◌, ◌*◌, drop}
use Rattle.lists.specs.Writes.{Filling}
use Rattle.decision_log.specs.Log.{kept_words}
use Rattle.fits.specs.Rows.{cells_from}
use Rattle.fits.proofs.put_rows.Given as goal

abbrev pub invariant-loop-i : goal.invariant-loop-i
invariant-loop-i l = Filling l.initial.out 8640 (cells_from 0 (kept_words l.log l.words)) l.out (8640 + 8 * l.i) (cells_from l.i (drop l.i (kept_words l.log l.words)))
