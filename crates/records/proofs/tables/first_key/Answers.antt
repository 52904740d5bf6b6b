-- `records::tables::first_key` meets its contract.
use Rattle.std.proofs.Common.{rules}
use Rattle.records.specs.Tables.{first_key}
use Rattle.records.proofs.tables.first_key.Goals as goal

pub returns : goal.returns
unfolding first_key
returns c = search rules
