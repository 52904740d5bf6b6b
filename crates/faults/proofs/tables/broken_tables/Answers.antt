-- `faults::tables::broken_tables` meets its contract.
use Rattle.std.proofs.Common.{rules, tests, refl, ◌∙◌, ne_eqb, eq-eqb}
use Rattle.lists.specs.AnyPlace.{any_place}
use Rattle.records.specs.Tables.{tables_of, no_table}
use Rattle.faults.specs.Tables.{table_broken, broken_tables}
use Rattle.faults.proofs.tables.broken_tables.Goals as goal

pub returns-then-tables-ne0 : goal.returns-then-tables-ne0
unfolding broken_tables
returns-then-tables-ne0 c = rw (ne_eqb _ 0 c.if-tables-ne0.true)

pub returns-else-tables-ne0 : goal.returns-else-tables-ne0
unfolding broken_tables
returns-else-tables-ne0 c =
    any_place table_broken (tables_of c.args.tables.now) no_table _ _ _ _ refl c.table_count.ensures c.any.ensures.ran (λ x b q k. search (rules, tests)) ∙ rw (eq-eqb _ 0 c.if-tables-ne0.false)
