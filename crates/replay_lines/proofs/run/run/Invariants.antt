-- `replay_lines::run::run` meets its contract. The invariant: what is left to write is what the lines that are still to come print, and the lines before them bound the line number and the bytes written.
use Rattle.std.proofs.Common.{length, ◌≡◌, ◌+◌, ◌*◌, ◌≤◌}
use Rattle.lists.specs.Writes.{Filling}
use Rattle.replay_lines.specs.Replay.{replay_from}
use Rattle.replay_text.specs.Lines.{lines_of}
use Rattle.replay_text.specs.Lines.Left.{lines_left}
use Rattle.state.specs.State.{fresh_of}
use Rattle.replay_lines.proofs.run.run.Given as goal

abbrev pub invariant-loop-line : goal.invariant-loop-line
invariant-loop-line l = (l.number + length (lines_left l.line-iterator) ≡ length (lines_of l.text) + 1)
    × (l.at + 18 ≤ 18 * l.number)
    × Filling l.initial.out 0 (replay_from (fresh_of 0) 1 (lines_of l.text)) l.out l.at (replay_from l.s l.number (lines_left l.line-iterator))
