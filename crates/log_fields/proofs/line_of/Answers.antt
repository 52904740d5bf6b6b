-- `log_fields::line_of` meets its contract. The invariant: the fields before the column are numbers of their columns and stand among the words, and the others are left.
use Rattle.std.proofs.Common.{◌≡◌, sym, ◌∙◌, ◌<◌, arith}
use Rattle.replay_text.specs.Lines.Left.{fields_left}
use Rattle.log_fields.specs.Line.Pairs.{reading-more, reading_bad, reading-short, reading-last, no_words}
use Rattle.log_fields.proofs.line_of.Goals as goal

pub returns-in_err-next : goal.returns-in_err-next
returns-in_err-next c = let l = c.loop-column in
    let k : l.column < 14 = omega arith in
    c.from_residual.ensures ∙ sym (no_words _ (reading-short _ _ _ _ l.invariant k (rw c.in_err-next.was at c.next.ensures.steps).0))

pub returns-in_err-word : goal.returns-in_err-word
returns-in_err-word c = let l = c.loop-column in
    let k : l.column < 14 = omega arith in
    c.from_residual-in_err-word.ensures ∙ sym (no_words _ (reading_bad _ _ _ _ l.invariant _ (fields_left c.next.new.self) k (rw c.in_ok-next.was at c.next.ensures.steps) (sym c.number_in.ensures ∙ c.in_err-word.was)))

pub loop-column-preserved : goal.loop-column-preserved
loop-column-preserved c = let l = c.loop-column in
    let k : l.column < 14 = omega arith in
    reading-more _ _ _ _ l.invariant _ (fields_left c.next.new.self) _ k (rw c.in_ok-next.was at c.next.ensures.steps) (sym c.number_in.ensures ∙ c.in_ok-word.was)

pub returns-then-is_some : goal.returns-then-is_some
returns-then-is_some c = let l = c.loop-column in
    let e : l.column ≡ 14 = omega arith in
    sym (reading-last _ _ (fields_left c.next-2.new.self) _ _ (rw e at l.invariant) c.next-2.ensures.steps ∙ rw (sym c.is_some.ensures ∙ c.if-is_some.true))

pub returns : goal.returns
returns c = let l = c.loop-column in
    let e : l.column ≡ 14 = omega arith in
    sym (reading-last _ _ (fields_left c.next-2.new.self) _ _ (rw e at l.invariant) c.next-2.ensures.steps ∙ rw (sym c.is_some.ensures ∙ c.if-is_some.false))
