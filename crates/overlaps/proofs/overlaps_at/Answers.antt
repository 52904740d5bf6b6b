-- `overlaps::overlaps_at` meets its contract.
use Rattle.overlaps.specs.Overlaps.{overlaps}
use Rattle.overlaps.proofs.overlaps_at.Goals as goal

pub returns-then-at_most : goal.returns-then-at_most
unfolding overlaps
returns-then-at_most c = simp (← c.table_at-t.ensures, ← c.first_key.ensures.1, ← c.at_most.ensures, c.if-at_most.true, ← c.last_key.ensures.1) c.at_most-then-at_most.ensures

pub returns : goal.returns
unfolding overlaps
returns c = simp (← c.table_at-t.ensures, ← c.first_key.ensures.1, ← c.at_most.ensures, c.if-at_most.false)
