-- `records::tables::table_count` meets its contract.
use Rattle.std.proofs.Common.{sym}
use Rattle.lists.specs.Records.{records_count}
use Rattle.records.specs.Tables.{tables_of}
use Rattle.records.proofs.tables.table_count.Goals as goal

pub returns : goal.returns
unfolding tables_of
returns c = sym (records_count 7 _ _)
