-- `estimates::Numbered::first_from` meets its contract.
use Rattle.std.proofs.Common.{◌≡◌, refl, ◌∙◌, ap, List, ℕ, ◌-◌, ◌/◌, arith, get_or, lt-ltb, le-ltb}
use Rattle.lists.specs.Halving.{halving_there, halving_down, halving_up}
use Rattle.lists.specs.Ordered.{each_at}
use Rattle.records.specs.Tables.{tables_of}
use Rattle.number_order.specs.Numbers.{number_at, by_number}
use Rattle.number_order.specs.Ordered.{number-within}
use Rattle.lookups.specs.Found.{below-falls}
use Rattle.estimates.proofs.Numbered.first_from.Goals as goal
use Rattle.estimates.proofs.Numbered.first_from.Goals.{then-number-number_of, else-number-number_of}

pub number_of-requires : goal.number_of-requires
number_of-requires c = let ts = tables_of c.args.self.now.tables.now in
    rw c.args.self.now.in_order (each_at _ (by_number ts) (number-within ts) _ 0 (halving_there c.loop-left.invariant c.loop-left-test.true refl refl).1)

pub loop-left-preserved : goal.loop-left-preserved
loop-left-preserved c = let ts = tables_of c.args.self.now.tables.now in
    let s = c.loop-left.invariant in
    let more = c.loop-left-test.true in
    let number = c.number_of.ensures ∙ ap (λ (l : List ℕ). number_at ts (get_or l (c.loop-left.last - c.loop-left.left / 2) 0)) c.args.self.now.in_order in
    elim c.if-number-number_of.branch [
      | then-number-number_of w ↦ rw w.last-is (halving_down s more refl refl (le-ltb _ _ (rw number at w.if-number-number_of.true)))
      | else-number-number_of w ↦ rw w.last-is (halving_up s more refl refl (below-falls ts c.args.number) (lt-ltb _ _ (rw number at w.if-number-number_of.false)))
    ]

pub returns : goal.returns
returns c = let s = c.loop-left.invariant in
    let one : c.loop-left.left ≡ 1 = omega (arith, s.some, c.loop-left-test.false) in
    rw one at s
