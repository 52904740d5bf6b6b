-- `estimates::Numbered::first_from` meets its contract.
use Rattle.lists.specs.Halving.{Halving}
use Rattle.records.specs.Tables.{tables_of}
use Rattle.number_order.specs.Numbers.{by_number}
use Rattle.lookups.specs.Found.{below}
use Rattle.estimates.proofs.Numbered.first_from.Given as goal

abbrev pub invariant-loop-left : goal.invariant-loop-left
invariant-loop-left l = Halving (below (tables_of l.self.tables.now) l.number) (by_number (tables_of l.self.tables.now)) l.last l.left

abbrev pub decreases-loop-left : goal.decreases-loop-left
decreases-loop-left l = l.left
