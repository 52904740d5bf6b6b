-- `candidate_words::level::put_level` meets its contract. The level and the next stand at the front of their arrays.
use Rattle.std.proofs.Common.{◌+◌, replicate}
use Rattle.records.specs.Tables.{tables_of}
use Rattle.levels.specs.Bounds.{places-front, sorted_front}
use Rattle.candidate_words.proofs.level.put_level.Goals as goal

pub slice_bounds-order-end : goal.slice_bounds-order-end
slice_bounds-order-end c = let a = c.args in
    (sorted_front a.keys.now (tables_of a.tables.now) a.level (replicate 1024 0) _ _ c.requires.tables_len_bound.0 c.sort_level-count.ensures).within

pub slice_bounds-put_ordered-end : goal.slice_bounds-put_ordered-end
slice_bounds-put_ordered-end c = let a = c.args in
    (sorted_front a.keys.now (tables_of a.tables.now) a.level (replicate 1024 0) _ _ c.requires.tables_len_bound.0 c.sort_level-count.ensures).long

pub slice_bounds-next-end : goal.slice_bounds-next-end
slice_bounds-next-end c = let a = c.args in
    (places-front (tables_of a.tables.now) (a.level + 1) _ _ _ c.requires.tables_len_bound.0 c.level_places-below.ensures).within

pub slice_bounds-put_ordered-end-2 : goal.slice_bounds-put_ordered-end-2
slice_bounds-put_ordered-end-2 c = let a = c.args in
    (places-front (tables_of a.tables.now) (a.level + 1) _ _ _ c.requires.tables_len_bound.0 c.level_places-below.ensures).long

pub put_ordered-requires : goal.put_ordered-requires
put_ordered-requires c =
    let a = c.args in
    let first = sorted_front a.keys.now (tables_of a.tables.now) a.level (replicate 1024 0) _ _ c.requires.tables_len_bound.0 c.sort_level-count.ensures in
    let second = places-front (tables_of a.tables.now) (a.level + 1) _ _ _ c.requires.tables_len_bound.0 c.level_places-below.ensures in
    rw (first.taken, second.taken) (record { level_bound = c.requires.tables_len_bound.1; fit = c.requires.fit })

pub returns : goal.returns
returns c =
    let a = c.args in
    let first = sorted_front a.keys.now (tables_of a.tables.now) a.level (replicate 1024 0) _ _ c.requires.tables_len_bound.0 c.sort_level-count.ensures in
    let second = places-front (tables_of a.tables.now) (a.level + 1) _ _ _ c.requires.tables_len_bound.0 c.level_places-below.ensures in
    rw (first.taken, second.taken) at c.put_ordered.ensures
