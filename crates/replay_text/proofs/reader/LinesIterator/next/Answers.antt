-- `replay_text::reader::Lines` gives a text's lines, one after the other.
use Rattle.std.proofs.Common.{arith}
use Rattle.replay_text.specs.Lines.NextLine.{line_at_says}
use Rattle.replay_text.proofs.reader.LinesIterator.next.Goals as goal

pub returns-in_err-line-clause-steps : goal.returns-in_err-line-clause-steps
returns-in_err-line-clause-steps c = let s = rw (← c.next_line.ensures, c.in_err-line.was) at (line_at_says c.args.self.now.text.now c.args.self.now.at) in
    rw c.from_residual.ensures (s, s)

pub slice_bounds-result-count : goal.slice_bounds-result-count
slice_bounds-result-count c = let s = rw (← c.next_line.ensures, c.in_ok-line.was) at (line_at_says c.args.self.now.text.now c.args.self.now.at) in s.order

pub slice_bounds-result-start : goal.slice_bounds-result-start
slice_bounds-result-start c = let s = rw (← c.next_line.ensures, c.in_ok-line.was) at (line_at_says c.args.self.now.text.now c.args.self.now.at) in s.order

pub slice_bounds-result-end : goal.slice_bounds-result-end
slice_bounds-result-end c = let s = rw (← c.next_line.ensures, c.in_ok-line.was) at (line_at_says c.args.self.now.text.now c.args.self.now.at) in s.room

pub returns-clause-steps : goal.returns-clause-steps
returns-clause-steps c = let s = rw (← c.next_line.ensures, c.in_ok-line.was) at (line_at_says c.args.self.now.text.now c.args.self.now.at) in s.lines

pub returns-clause-goes : goal.returns-clause-goes
returns-clause-goes c = let s = rw (← c.next_line.ensures, c.in_ok-line.was) at (line_at_says c.args.self.now.text.now c.args.self.now.at) in
    record { on = λ _. (tt, tt, rw s.lines (omega arith)); keeps = tt; rests = λ _. tt }
