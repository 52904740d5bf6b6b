-- `records::tables::last_key` meets its contract.
use Rattle.std.proofs.Common.{rules}
use Rattle.records.specs.Tables.{last_key}
use Rattle.records.proofs.tables.last_key.Goals as goal

pub returns : goal.returns
unfolding last_key
returns c = search rules
