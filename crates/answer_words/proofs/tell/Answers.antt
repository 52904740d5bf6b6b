-- `answer_words::tell` meets its contract.
use Rattle.std.proofs.Common.{eq-eqb, ne_eqb, refl}
use Rattle.answer_words.proofs.tell.Goals as goal

pub returns-then-refusal-eq-NONE : goal.returns-then-refusal-eq-NONE
returns-then-refusal-eq-NONE c = record { value = refl; count_after = simp (eq-eqb _ _ c.if-refusal-eq-NONE.true) }

pub returns-else-refusal-eq-NONE : goal.returns-else-refusal-eq-NONE
returns-else-refusal-eq-NONE c = record { value = refl; count_after = simp (ne_eqb _ _ c.if-refusal-eq-NONE.false) }
