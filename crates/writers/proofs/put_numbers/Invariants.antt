-- `writers::put_numbers` meets its contract. What is left is the numbers from place i on.
use Rattle.std.proofs.Common.{◌+◌, drop}
use Rattle.lists.specs.Writes.{Filling}
use Rattle.records.specs.Tables.{tables_of}
use Rattle.writers.specs.Writers.{numbers_of}
use Rattle.writers.proofs.put_numbers.Given as goal

abbrev pub invariant-loop-i : goal.invariant-loop-i
invariant-loop-i l = Filling l.initial.out l.from (numbers_of (tables_of l.tables) l.places) l.out (l.from + l.i) (numbers_of (tables_of l.tables) (drop l.i l.places))
