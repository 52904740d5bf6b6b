-- `log_text::put_lines` meets its contract. The invariant: what is left to write is the words of the lines that are still to come.
use Rattle.std.proofs.Common.{length, ◌≡◌, ◌∙◌, ap, ◌+◌, ◌*◌, arith}
use Rattle.log_text.specs.Text.Steps.{line_long, words_more, words-end}
use Rattle.replay_text.specs.Lines.Lengths.{lines-few}
use Rattle.replay_text.specs.Lines.{fields_of}
use Rattle.log_fields.specs.Line.Pairs.{zeros_or_words}
use Rattle.lists.specs.Writes.{fill-part, fill_end}
use Rattle.decisions.specs.Decision.{decision_width}
use Rattle.log_text.specs.Text.{read_line}
use Rattle.log_text.proofs.put_lines.Goals as goal

pub overflow_mul-n : goal.overflow_mul-n
overflow_mul-n c = omega (arith, ap length c.in-Some.ensures.steps, lines-few c.args.text.now, c.loop-line.invariant.0, c.requires)

pub overflow_add-n : goal.overflow_add-n
overflow_add-n c = omega (arith, ap length c.in-Some.ensures.steps, lines-few c.args.text.now, c.loop-line.invariant.0, c.requires)

pub loop-line-preserved : goal.loop-line-preserved
loop-line-preserved c = let l = c.loop-line in
    let s = c.in-Some.ensures.steps in
    let t = c.in-Some.line.now in
    let w = line_long t in
    let k : decision_width * (l.n + 1) ≡ decision_width * l.n + length (read_line t).words = omega arith in
    let d : c.unwrap_or-decision.result ≡ (read_line t).words = c.unwrap_or-decision.ensures ∙ rw c.line_of.ensures (zeros_or_words (fields_of t)) in (
      omega (arith, ap length s, l.invariant.0),
      fill-part _ _ _ _ _ (read_line t).words _ _ _ (rw (words_more _ _ _ s) at l.invariant.1) (record { ends = k; stands = c.put_words.ensures ∙ rw d }),
    )

pub returns : goal.returns
returns c = let e = c.in-None.ensures.steps.0 in
    (omega (arith, ap length e, c.loop-line.invariant.0), fill_end _ _ _ _ _ (rw (words-end _ e) at c.loop-line.invariant.1))
