-- `answer_words::answer` meets its contract.
use Rattle.std.proofs.Common.{eq-eqb, ne_eqb, lt-ltb, le-ltb, ◌∙◌}
use Rattle.answer_words.specs.AnswerWords.{answer_fault}
use Rattle.lists.specs.Writes.{sets_front}
use Rattle.answer_words.proofs.answer.Goals as goal

pub returns-then-refusal-ne-NONE : goal.returns-then-refusal-ne-NONE
unfolding answer_fault
returns-then-refusal-ne-NONE c = let e = ne_eqb _ _ c.if-refusal-ne-NONE.true in record { value = simp e; out_after = simp e }

pub returns-then-out-words : goal.returns-then-out-words
unfolding answer_fault
returns-then-out-words c = let e = eq-eqb _ _ c.if-refusal-ne-NONE.false in let l = lt-ltb _ _ c.if-out-words.true in record { value = simp (e, l); out_after = simp (e, l) }

pub returns : goal.returns
unfolding answer_fault
returns c = let e = eq-eqb _ _ c.if-refusal-ne-NONE.false in let l = le-ltb _ _ c.if-out-words.false in record {
  value = simp (e, l);
  out_after = rw (e, l) (c.put_words.ensures ∙ sets_front c.args.words.now c.args.out.now c.if-out-words.false);
}
