-- `writers::put_overlapping` meets its contract. What is left is the numbers of the overlapping ones from a place on.
use Rattle.std.proofs.Common.{sym, ◌∙◌, add_assoc, arith}
use Rattle.lists.specs.Writes.{fill_put, fill_end}
use Rattle.lists.specs.Filter.{filter-keep, filter_skip, filter-end}
use Rattle.overlaps.specs.Overlaps.{meets}
use Rattle.records.specs.Tables.{tables_of}
use Rattle.writers.proofs.put_overlapping.Goals as goal
use Rattle.writers.proofs.put_overlapping.Goals.{then-overlaps_at, else-overlaps_at}

pub loop-place-preserved : goal.loop-place-preserved
loop-place-preserved c =
    let a = c.args in
    let l = c.loop-place in
    let met = meets a.keys.now (tables_of a.tables.now) a.lo.now a.hi.now in
    elim c.if-overlaps_at.branch [
      | then-overlaps_at w ↦ rw (w.out-is, w.n-is, w.put.ensures) (omega arith, rw (← add_assoc) (fill_put _ _ _ _ _ _ _ (rw (filter-keep met a.next.now l.place-index 0 c.loop-place-test.true (sym c.overlaps_at.ensures ∙ w.if-overlaps_at.true), ← w.number_at.ensures) at l.invariant.1)))
      | else-overlaps_at w ↦ rw (w.out-is, w.n-is) (omega arith, rw (filter_skip met a.next.now l.place-index 0 c.loop-place-test.true (sym c.overlaps_at.ensures ∙ w.if-overlaps_at.false)) at l.invariant.1)
    ]

pub returns : goal.returns
returns c = let a = c.args in
    fill_end _ _ _ _ _ (rw (filter-end (meets a.keys.now (tables_of a.tables.now) a.lo.now a.hi.now) a.next.now c.loop-place.place-index c.loop-place-test.false) at c.loop-place.invariant.1)
