-- `writers::put_many` meets its contract.
use Rattle.records.specs.Tables.{tables_of}
use Rattle.writers.specs.Writers.{merged_of}
use Rattle.writers.specs.Alone.{merged_alone}
use Rattle.writers.proofs.put_many.Goals as goal

pub returns-then-next-eq0 : goal.returns-then-next-eq0
returns-then-next-eq0 c = let a = c.args in
    rw (merged_alone a.keys.now (tables_of a.tables.now) a.next.now a.places.now c.if-next-eq0.true) c.put_numbers.ensures

pub returns : goal.returns
unfolding merged_of
returns c = rw (c.low-lo.ensures, c.high-hi.ensures) at c.put_merged.ensures
