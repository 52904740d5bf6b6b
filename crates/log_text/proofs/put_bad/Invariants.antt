-- `log_text::put_bad` meets its contract. The invariant: what is left to write is the rows of the lines that are still to come, and the lines before them bound the line number and the bytes written.
use Rattle.std.proofs.Common.{length, ◌≡◌, ◌+◌, ◌*◌, ◌≤◌}
use Rattle.lists.specs.Writes.{Filling}
use Rattle.log_text.specs.Text.{bad_from}
use Rattle.replay_text.specs.Lines.{lines_of}
use Rattle.replay_text.specs.Lines.Left.{lines_left}
use Rattle.log_text.proofs.put_bad.Given as goal

abbrev pub invariant-loop-line : goal.invariant-loop-line
invariant-loop-line l = (l.number + length (lines_left l.line-iterator) ≡ length (lines_of l.text) + 1)
    × (l.at + 42 ≤ 42 * l.number)
    × Filling l.initial.out 0 (bad_from 1 (lines_of l.text)) l.out l.at (bad_from l.number (lines_left l.line-iterator))
