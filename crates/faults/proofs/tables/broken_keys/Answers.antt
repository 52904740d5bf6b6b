-- `faults::tables::broken_keys` meets its contract.
use Rattle.std.proofs.Common.{rules, tests, refl, length}
use Rattle.lists.specs.AnyPlace.{any_place}
use Rattle.records.specs.Tables.{tables_of, no_table}
use Rattle.faults.specs.Tables.{keys_broken, broken_keys}
use Rattle.faults.proofs.tables.broken_keys.Goals as goal

pub returns : goal.returns
unfolding broken_keys
returns c =
    any_place (keys_broken (length c.args.keys.now)) (tables_of c.args.tables.now) no_table _ _ _ _ refl c.table_count.ensures c.any.ensures.ran (λ x b q k. search (rules, tests))
