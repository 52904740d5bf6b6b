-- `records::tables::table_at` meets its contract.
use Rattle.records.specs.Words.{record_at}
use Rattle.records.specs.Tables.{tables_of, table_by}
use Rattle.records.proofs.tables.table_at.Goals as goal

pub returns : goal.returns
unfolding tables_of
returns c = rw (c.word-7.ensures, c.word-6.ensures, c.word-5.ensures, c.word-4.ensures, c.word-3.ensures, c.word-2.ensures, c.word.ensures) (record_at _ 7 _ table_by)
