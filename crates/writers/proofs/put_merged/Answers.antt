-- `writers::put_merged` meets its contract. Lengths of slices are far below the end of their type, so no sum of two passes it.
use Rattle.std.proofs.Common.{add_assoc, arith}
use Rattle.lists.specs.Filter.{filter-small}
use Rattle.lists.specs.Writes.{filled-append, filled-clip}
use Rattle.overlaps.specs.Overlaps.{meets, overlapping_of}
use Rattle.records.specs.Tables.{tables_of}
use Rattle.writers.specs.Steps.{numbers-length}
use Rattle.writers.proofs.put_merged.Goals as goal

pub overflow_add-from : goal.overflow_add-from
overflow_add-from c = omega (arith, c.put_numbers-own.ensures.ends, numbers-length (tables_of c.args.tables.now) c.args.places.now)

pub put_overlapping-requires : goal.put_overlapping-requires
put_overlapping-requires c = omega (arith, c.put_numbers-own.ensures.ends, numbers-length (tables_of c.args.tables.now) c.args.places.now)

pub overflow_add-result : goal.overflow_add-result
overflow_add-result c = let a = c.args in let ks = a.keys.now in let ts = tables_of a.tables.now in
    omega (arith, c.put_numbers-own.ensures.ends, numbers-length (tables_of c.args.tables.now) c.args.places.now, c.put_overlapping.ensures.ends, numbers-length ts (overlapping_of ks ts a.lo.now a.hi.now a.next.now), filter-small (meets ks ts a.lo.now a.hi.now) a.next.now)

pub returns : goal.returns
returns c = filled-clip _ _ _ _ _ _ c.min-from.ensures (rw (← add_assoc) (filled-append _ _ _ _ _ _ _ _ c.put_numbers-own.ensures c.put_overlapping.ensures))
