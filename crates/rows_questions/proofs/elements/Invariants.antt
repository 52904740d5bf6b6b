-- `rows_questions::elements` answers no more text than it is given: each number leaves less.
use Rattle.std.proofs.Common.{◌≤◌, length}
use Rattle.rows_questions.proofs.elements.Given as goal

abbrev pub invariant-loop-to : goal.invariant-loop-to
invariant-loop-to l = length l.left ≤ length l.text
