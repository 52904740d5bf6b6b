-- `reliefs::debt_relief` meets its contract. No entry before `i` has the level.
use Rattle.std.proofs.Common.{eq-eqb, ne_eqb, refl, ◌∙◌, arith}
use Rattle.lists.specs.Filter.{filter-keep, filter_skip, filter-end}
use Rattle.reliefs.specs.Reliefs.{first_share}
use Rattle.records.specs.Tables.{entries_of, no_entry}
use Rattle.reliefs.proofs.debt_relief.Invariants.{has_level}
use Rattle.reliefs.proofs.debt_relief.Goals as goal

pub loop-i-init : goal.loop-i-init
loop-i-init c = refl

pub returns-then-e-level : goal.returns-then-e-level
unfolding first_share
returns-then-e-level c = let a = c.args in let l = c.loop-i in let e = c.entry_at-e.ensures in
    c.share.ensures ∙ rw (e, l.invariant, filter-keep (has_level a.level) (entries_of a.over.now) l.i no_entry (omega arith) (rw e at (eq-eqb _ _ c.if-e-level.true)))

pub loop-i-preserved : goal.loop-i-preserved
loop-i-preserved c = let a = c.args in let l = c.loop-i in
    l.invariant ∙ filter_skip (has_level a.level) (entries_of a.over.now) l.i no_entry (omega arith) (rw c.entry_at-e.ensures at (ne_eqb _ _ c.if-e-level.false))

pub returns : goal.returns
unfolding first_share
returns c = let a = c.args in let l = c.loop-i in rw (l.invariant, filter-end (has_level a.level) (entries_of a.over.now) l.i (omega arith))
