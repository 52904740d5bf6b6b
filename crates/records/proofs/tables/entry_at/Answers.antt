-- `records::tables::entry_at` meets its contract.
use Rattle.records.specs.Words.{record_at}
use Rattle.records.specs.Tables.{entries_of, entry_by}
use Rattle.records.proofs.tables.entry_at.Goals as goal

pub returns : goal.returns
unfolding entries_of
returns c = rw (c.word-2.ensures, c.word.ensures) (record_at _ 2 _ entry_by)
