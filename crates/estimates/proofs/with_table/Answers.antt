-- `estimates::with_table` meets its contract.
use Rattle.std.proofs.Common.{eq-eqb, ne_eqb}
use Rattle.estimates.specs.Estimate.Tally.{with_table}
use Rattle.estimates.proofs.with_table.Goals as goal

pub returns-then-x-level : goal.returns-then-x-level
unfolding with_table
returns-then-x-level c = rw (eq-eqb _ _ c.if-x-level.true, c.older.ensures)

pub returns : goal.returns
unfolding with_table
returns c = rw (ne_eqb _ _ c.if-x-level.false)
