-- `fits_headers::put_headers` meets its contract. What is left to write is the places from `place` on.
use Rattle.std.proofs.Common.{◌≡◌, ◌∙◌, arith, length}
use Rattle.lists.specs.Writes.{fill_start, fill-part, fill_end}
use Rattle.fits_headers.specs.Places.{place_card}
use Rattle.fits_headers.specs.Places.Steps.{headers-places, places-more, places-end, place-length}
use Rattle.fits_headers.proofs.put_headers.Goals as goal

pub loop-place-init : goal.loop-place-init
loop-place-init c = rw (headers-places c.args.rows) (fill_start _ _ _)

pub loop-place-preserved : goal.loop-place-preserved
loop-place-preserved c = let a = c.args in
    let n : length (place_card a.rows c.loop-place.place) ≡ 80 = place-length a.rows c.loop-place.place c.loop-place-test.true in
    fill-part _ _ _ _ _ (place_card a.rows c.loop-place.place) _ _ _ (rw (places-more _ _ c.loop-place-test.true) at c.loop-place.invariant)
    (record { ends = omega arith; stands = c.put_bytes.ensures ∙ rw c.place_card.ensures })

pub returns : goal.returns
returns c = let l = c.loop-place in
    (fill_end _ _ _ _ _ (rw (places-end _ _ c.loop-place-test.false) at l.invariant)).stands
