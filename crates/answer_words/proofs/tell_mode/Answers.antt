-- `answer_words::tell_mode` meets its contract.
use Rattle.std.proofs.Common.{arith, sym, ◌∙◌}
use Rattle.state_words.specs.StateWords.{gated}
use Rattle.state_words.specs.StateWords.Sound.{good}
use Rattle.answer_words.specs.AnswerWords.{mode_or}
use Rattle.answer_words.specs.AnswerWords.Reading.{mode_of}
use Rattle.answer_words.proofs.tell_mode.Goals as goal

pub returns-then-not-is_state : goal.returns-then-not-is_state
unfolding gated mode_or
returns-then-not-is_state c = let e = sym c.is_state.ensures ∙ c.if-not-is_state.true in record { value = simp e; mode_after = simp e }

pub bounds-words-1 : goal.bounds-words-1
bounds-words-1 c = omega (arith, (good _ (sym c.is_state.ensures ∙ c.if-not-is_state.false)).long)

pub returns : goal.returns
unfolding gated
returns c = let e = sym c.is_state.ensures ∙ c.if-not-is_state.false in record { value = simp e; mode_after = sym (mode_of _ _ e) }
