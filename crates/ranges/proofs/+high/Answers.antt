-- `ranges::high` meets its contract.
use Rattle.std.proofs.Common.{◌∙◌, ap, arith}
use Rattle.records.specs.Tables.{tables_of, last_at}
use Rattle.keys.specs.Keys.{greater_of}
use Rattle.keys.specs.Lesser.{greater_bytes}
use Rattle.ranges.specs.Least.{greater_picks}
use Rattle.ranges.specs.Halves.{end_none, end-one, end_halves}
use Rattle.ranges.proofs.+high.Goals as goal

pub returns-then-places-eq0 : goal.returns-then-places-eq0
returns-then-places-eq0 t c = c.part.ensures.1 ∙ end_none greater_of _ _ c.if-places-eq0.true

pub returns-then-places-eq1 : goal.returns-then-places-eq1
returns-then-places-eq1 t c = c.last_key.ensures.1 ∙ rw c.table_at.ensures (end-one greater_of _ _ c.if-places-eq1.true)

pub returns : goal.returns
returns t c = let a = c.args in
    ap (λ x. x.now) c.greater.ensures ∙ greater_bytes _ _ ∙ end_halves greater_picks (last_at a.keys.now (tables_of a.tables.now)) a.places.now _ _ _ (omega arith) (omega arith) c.high.ensures c.high-2.ensures
