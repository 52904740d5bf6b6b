-- `log_text::put_bad` meets its contract. The invariant: what is left to write is the rows of the lines that are still to come, and the lines before them bound the line number and the bytes written.
use Rattle.std.proofs.Common.{length, ap, ◌≡◌, ◌∙◌, arith}
use Rattle.log_text.specs.Text.Steps.{bad_more, bad_end, maybe_few}
use Rattle.log_text.specs.Text.{read_line}
use Rattle.log_fields.specs.Line.Pairs.{good_some}
use Rattle.replay_text.specs.Lines.Lengths.{lines-few}
use Rattle.lists.specs.Writes.{fill-part, fill_end}
use Rattle.log_text.proofs.put_bad.Goals as goal

pub overflow_add-at : goal.overflow_add-at
overflow_add-at c = omega (arith, maybe_few c.loop-line.number c.is_some.result, c.put_refused-at.ensures.ends, ap length c.in-Some.ensures.steps, lines-few c.args.text.now, c.loop-line.invariant, c.requires)

pub overflow_add-number : goal.overflow_add-number
overflow_add-number c = omega (arith, ap length c.in-Some.ensures.steps, lines-few c.args.text.now, c.loop-line.invariant.0, c.requires)

pub loop-line-preserved : goal.loop-line-preserved
loop-line-preserved c = let l = c.loop-line in
    let s = c.in-Some.ensures.steps in
    let g : c.is_some.result ≡ (read_line c.in-Some.line.now).good = c.is_some.ensures ∙ rw c.line_of.ensures (good_some (read_line c.in-Some.line.now)) in (
      omega (arith, ap length s, l.invariant.0),
      omega (arith, l.invariant.1, maybe_few l.number c.is_some.result, c.put_refused-at.ensures.ends),
      fill-part _ _ _ _ _ _ _ _ _ (rw (bad_more l.number _ _ _ s) at l.invariant.2) (rw g at c.put_refused-at.ensures),
    )

pub returns : goal.returns
returns c = fill_end _ _ _ _ _ (rw (bad_end c.loop-line.number _ c.in-None.ensures.steps.0) at c.loop-line.invariant.2)
