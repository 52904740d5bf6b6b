-- `l0_words::put_l0` meets its contract. Both levels stand at the front of their arrays. It is written out so that a wrong word is refused here.
use Rattle.std.proofs.Common.{true, false, refl, sym, ◌∙◌, arith, length, ltb-false}
use Rattle.records.specs.Tables.{tables_of}
use Rattle.levels.specs.Bounds.{places-front}
use Rattle.l0_words.specs.Laws.{l0-past, l0_due}
use Rattle.l0_words.specs.Written.{written_none, written_one}
use Rattle.l0_words.proofs.put_l0.Goals as goal

pub returns-then-too_many_tables : goal.returns-then-too_many_tables
returns-then-too_many_tables c = let a = c.args in
    rw (l0-past a.tables.now a.keys.now a.trigger (sym c.too_many_tables.ensures ∙ c.if-too_many_tables.true)) (written_none _ _ _)

pub returns-then-not-due : goal.returns-then-not-due
returns-then-not-due c = let a = c.args in
    rw (l0_due a.tables.now a.keys.now a.trigger _ false (sym c.too_many_tables.ensures ∙ c.if-too_many_tables.false) c.level_places-count.ensures.0 (sym c.if-not-due.true ∙ c.due.ensures)) (written_none _ _ _)

pub slice_bounds-places-end : goal.slice_bounds-places-end
slice_bounds-places-end c = let ts = tables_of c.args.tables.now in
    (places-front ts 0 _ _ _ (ltb-false 1024 (length ts) (sym c.too_many_tables.ensures ∙ c.if-too_many_tables.false)) c.level_places-count.ensures).within

pub slice_bounds-put_many-end : goal.slice_bounds-put_many-end
slice_bounds-put_many-end c = let ts = tables_of c.args.tables.now in
    (places-front ts 0 _ _ _ (ltb-false 1024 (length ts) (sym c.too_many_tables.ensures ∙ c.if-too_many_tables.false)) c.level_places-count.ensures).long

pub slice_bounds-next-end : goal.slice_bounds-next-end
slice_bounds-next-end c = let ts = tables_of c.args.tables.now in
    (places-front ts _ _ _ _ (ltb-false 1024 (length ts) (sym c.too_many_tables.ensures ∙ c.if-too_many_tables.false)) c.level_places-below.ensures).within

pub slice_bounds-put_many-end-2 : goal.slice_bounds-put_many-end-2
slice_bounds-put_many-end-2 c = let ts = tables_of c.args.tables.now in
    (places-front ts _ _ _ _ (ltb-false 1024 (length ts) (sym c.too_many_tables.ensures ∙ c.if-too_many_tables.false)) c.level_places-below.ensures).long

pub returns : goal.returns
returns c =
    let a = c.args in
    let ts = tables_of a.tables.now in
    let few = sym c.too_many_tables.ensures ∙ c.if-too_many_tables.false in
    let first = places-front ts 0 _ _ _ (ltb-false 1024 (length ts) few) c.level_places-count.ensures in
    let second = places-front ts 1 _ _ _ (ltb-false 1024 (length ts) few) c.level_places-below.ensures in
    let there = l0_due a.tables.now a.keys.now a.trigger _ true few c.level_places-count.ensures.0 (sym c.if-not-due.false ∙ c.due.ensures) in
    let n = rw (first.taken, second.taken) at c.put_many-n.ensures in
    rw there (written_one _ _ _ _ _ _ _ _ n _ _ _ (record { words = record { ends = refl; stands = c.put_words.ensures }; numbers = omega arith }))
