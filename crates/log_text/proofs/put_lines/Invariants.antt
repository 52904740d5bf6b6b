-- `log_text::put_lines` meets its contract. The invariant: what is left to write is the words of the lines that are still to come.
use Rattle.std.proofs.Common.{length, ◌≡◌, ◌+◌, ◌*◌}
use Rattle.lists.specs.Writes.{Filling}
use Rattle.decisions.specs.Decision.{decision_width}
use Rattle.log_text.specs.Text.{words_of}
use Rattle.replay_text.specs.Lines.{lines_of}
use Rattle.replay_text.specs.Lines.Left.{lines_left}
use Rattle.log_text.proofs.put_lines.Given as goal

abbrev pub invariant-loop-line : goal.invariant-loop-line
invariant-loop-line l = (l.n + length (lines_left l.line-iterator) ≡ length (lines_of l.text))
    × Filling l.initial.words 0 (words_of (lines_of l.text)) l.words (decision_width * l.n) (words_of (lines_left l.line-iterator))
