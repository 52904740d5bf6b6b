-- `replay_lines::run::run` meets its contract. The invariant: what is left to write is what the lines that are still to come print, and the lines before them bound the line number and the bytes written.
use Rattle.std.proofs.Common.{length, ap, take_all, arith}
use Rattle.replay_lines.specs.Replay.Room.{printed-few}
use Rattle.replay_lines.specs.Replay.Steps.{replay_more, replay_end}
use Rattle.replay_text.specs.Lines.Lengths.{lines-few}
use Rattle.lists.specs.Writes.{fill-part, fill_end}
use Rattle.replay_lines.proofs.run.run.Goals as goal

pub overflow_add-at : goal.overflow_add-at
overflow_add-at c = let n = c.line_numbers in
    let w = rw (take_all 1024 n.result (omega (arith, n.ensures.0)), n.ensures.1, c.code-told.ensures, c.observe_line.ensures.refusal, c.observe_line.ensures.state) at c.put_row-at.ensures in
    let f = printed-few c.loop-line.number c.loop-line.s c.line_of.result (omega (arith, ap length c.in-Some.ensures.steps, lines-few c.args.text.now, c.loop-line.invariant.0, c.requires)) in
    omega (arith, w.ends, f, ap length c.in-Some.ensures.steps, lines-few c.args.text.now, c.loop-line.invariant, c.requires)

pub overflow_add-number : goal.overflow_add-number
overflow_add-number c = omega (arith, ap length c.in-Some.ensures.steps, lines-few c.args.text.now, c.loop-line.invariant.0, c.requires)

pub loop-line-preserved : goal.loop-line-preserved
loop-line-preserved c = let l = c.loop-line in
    let s = c.in-Some.ensures.steps in
    let n = c.line_numbers in
    let w = rw (take_all 1024 n.result (omega (arith, n.ensures.0)), n.ensures.1, c.code-told.ensures, c.observe_line.ensures.refusal, c.observe_line.ensures.state) at c.put_row-at.ensures in
    let f = printed-few l.number l.s c.line_of.result (omega (arith, ap length s, lines-few c.args.text.now, l.invariant.0, c.requires)) in
    let e = replay_more l.s l.number _ _ _ s in (
      omega (arith, ap length s, l.invariant.0),
      omega (arith, l.invariant.1, w.ends, f),
      fill-part _ _ _ _ _ _ _ _ _ (rw (c.observe_line.ensures.state, c.line_of.ensures, ← e) l.invariant.2) (rw c.line_of.ensures at w),
    )

pub returns : goal.returns
returns c = fill_end _ _ _ _ _ (rw (replay_end c.loop-line.s c.loop-line.number _ c.in-None.ensures.steps.0) at c.loop-line.invariant.2)
