-- `text_writers::put_row` meets its contract. What is left is the numbers from place i on.
use Rattle.std.proofs.Common.{◌+◌, ◌*◌, ◌≤◌, drop}
use Rattle.lists.specs.Writes.{Filling}
use Rattle.text_writers.specs.Rows.{row_of}
use Rattle.text_writers.proofs.put_row.Given as goal

abbrev pub invariant-loop-i : goal.invariant-loop-i
invariant-loop-i l = (l.n ≤ 21 * l.i)
    × Filling l.initial.out l.from (row_of l.between l.last l.row) l.out (l.from + l.n) (row_of l.between l.last (drop l.i l.row))
