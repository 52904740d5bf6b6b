-- `ranges::low` meets its contract.
use Rattle.std.proofs.Common.{◌∙◌, ap, arith}
use Rattle.records.specs.Tables.{tables_of, first_at}
use Rattle.keys.specs.Keys.{lesser_of}
use Rattle.keys.specs.Lesser.{lesser_bytes}
use Rattle.ranges.specs.Least.{lesser_picks}
use Rattle.ranges.specs.Halves.{end_none, end-one, end_halves}
use Rattle.ranges.proofs.+low.Goals as goal

pub returns-then-places-eq0 : goal.returns-then-places-eq0
returns-then-places-eq0 t c = c.part.ensures.1 ∙ end_none lesser_of _ _ c.if-places-eq0.true

pub returns-then-places-eq1 : goal.returns-then-places-eq1
returns-then-places-eq1 t c = c.first_key.ensures.1 ∙ rw c.table_at.ensures (end-one lesser_of _ _ c.if-places-eq1.true)

pub returns : goal.returns
returns t c = let a = c.args in
    ap (λ x. x.now) c.lesser.ensures ∙ lesser_bytes _ _ ∙ end_halves lesser_picks (first_at a.keys.now (tables_of a.tables.now)) a.places.now _ _ _ (omega arith) (omega arith) c.low.ensures c.low-2.ensures
