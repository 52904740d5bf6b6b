-- `rows_questions::arguments` ends: each argument and its space leave less text.
use Rattle.std.proofs.Common.{length}
use Rattle.rows_questions.proofs.arguments.Given as goal

abbrev pub decreases-loop-space : goal.decreases-loop-space
decreases-loop-space l = length l.left
