-- `faults::tables::levels_out` meets its contract.
use Rattle.std.proofs.Common.{rules, tests, refl}
use Rattle.lists.specs.AnyPlace.{any_place}
use Rattle.records.specs.Tables.{entries_of, no_entry}
use Rattle.faults.specs.Tables.{level_out, levels_out}
use Rattle.faults.proofs.tables.levels_out.Goals as goal

pub returns : goal.returns
unfolding levels_out
returns c =
    any_place level_out (entries_of c.args.over.now) no_entry _ _ _ _ refl c.entry_count.ensures c.any.ensures.ran (λ x b q k. search (rules, tests))
