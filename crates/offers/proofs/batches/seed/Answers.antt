-- `offers::batches::seed` meets its contract. The definition's own state: the best number and where it stands.
use Rattle.std.proofs.Common.{sym, ◌∙◌, arith, lt-ltb, le-ltb}
use Rattle.offers.specs.Batches.{seed_none, seed_some, seed_more, seed_end}
use Rattle.records.specs.Tables.{tables_of}
use Rattle.offers.proofs.batches.seed.Goals as goal
use Rattle.offers.proofs.batches.seed.Goals.{then-number-best, else-number-best}

pub returns-then-order-eq0 : goal.returns-then-order-eq0
returns-then-order-eq0 c = sym (seed_none _ _ c.if-order-eq0.true)

pub loop-i-init : goal.loop-i-init
loop-i-init c = let a = c.args in
    (omega (arith, c.if-order-eq0.false), seed_some (tables_of a.tables.now) a.order.now (omega (arith, c.if-order-eq0.false)) ∙ rw (← c.number_at-best.ensures))

pub loop-i-preserved : goal.loop-i-preserved
loop-i-preserved c =
    let a = c.args in
    let l = c.loop-i in
    let more = l.invariant.1 ∙ seed_more (tables_of a.tables.now) a.order.now l.i l.best l.at c.loop-i-test.true in
    elim c.if-number-best.branch [
      | then-number-best w ↦ rw (w.best-is, w.at-is) (omega arith, more ∙ simp (← c.number_at-number.ensures, lt-ltb _ _ w.if-number-best.true))
      | else-number-best w ↦ rw (w.best-is, w.at-is) (omega arith, more ∙ simp (← c.number_at-number.ensures, le-ltb _ _ w.if-number-best.false))
    ]

pub returns : goal.returns
returns c = let a = c.args in let l = c.loop-i in
    sym (l.invariant.1 ∙ seed_end (tables_of a.tables.now) a.order.now l.i l.best l.at (omega arith))
