-- `records::tables::entry_count` meets its contract.
use Rattle.std.proofs.Common.{sym}
use Rattle.lists.specs.Records.{records_count}
use Rattle.records.specs.Tables.{entries_of}
use Rattle.records.proofs.tables.entry_count.Goals as goal

pub returns : goal.returns
unfolding entries_of
returns c = sym (records_count 2 _ _)
