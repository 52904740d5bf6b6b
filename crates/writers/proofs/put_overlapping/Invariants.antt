-- `writers::put_overlapping` meets its contract. What is left is the numbers of the overlapping ones from a place on.
use Rattle.std.proofs.Common.{◌+◌, ◌≤◌, drop}
use Rattle.writers.specs.Writers.{numbers_of}
use Rattle.lists.specs.Writes.{Filling}
use Rattle.overlaps.specs.Overlaps.{overlapping_of}
use Rattle.records.specs.Tables.{tables_of}
use Rattle.writers.proofs.put_overlapping.Given as goal

abbrev pub invariant-loop-place : goal.invariant-loop-place
invariant-loop-place l = (l.n ≤ l.place-index) × Filling l.initial.out l.at (numbers_of (tables_of l.tables) (overlapping_of l.keys (tables_of l.tables) l.lo l.hi l.next)) l.out (l.at + l.n) (numbers_of (tables_of l.tables) (overlapping_of l.keys (tables_of l.tables) l.lo l.hi (drop l.place-index l.next)))
