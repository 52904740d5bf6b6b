-- `answer_words::reading_of` meets its contract.
use Rattle.std.proofs.Common.{sym, ◌∙◌}
use Rattle.state_words.specs.StateWords.Sound.{good}
use Rattle.answer_words.specs.AnswerWords.Reading.{reading_of, reading_of_none}
use Rattle.answer_words.proofs.reading_of.Goals as goal

pub reading_in-requires : goal.reading_in-requires
reading_in-requires c = (good _ (sym c.is_state.ensures ∙ c.if-is_state.true)).long

pub returns-then-is_state : goal.returns-then-is_state
returns-then-is_state c = c.reading_in.ensures ∙ sym (reading_of _ (sym c.is_state.ensures ∙ c.if-is_state.true))

pub returns : goal.returns
returns c = sym (reading_of_none _ (sym c.is_state.ensures ∙ c.if-is_state.false))
