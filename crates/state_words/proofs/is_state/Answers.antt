-- `state_words::is_state` meets its contract.
use Rattle.std.proofs.Common.{eq-eqb, ne_eqb, le-leb}
use Rattle.state_words.specs.StateWords.{is_state}
use borrow.Author.Tests.{lt-leb}
use Rattle.state_words.proofs.is_state.Goals as goal

pub returns-then-words-ne-STATE_WORDS : goal.returns-then-words-ne-STATE_WORDS
unfolding is_state
returns-then-words-ne-STATE_WORDS c = simp (ne_eqb _ _ c.if-words-ne-STATE_WORDS.true)

pub returns-then-words-ne-TAG : goal.returns-then-words-ne-TAG
unfolding is_state
returns-then-words-ne-TAG c = simp (eq-eqb _ _ c.if-words-ne-STATE_WORDS.false, ne_eqb _ _ c.if-words-ne-TAG.true)

pub returns-then-words-gt2 : goal.returns-then-words-gt2
unfolding is_state
returns-then-words-gt2 c = simp (eq-eqb _ _ c.if-words-ne-STATE_WORDS.false, eq-eqb _ _ c.if-words-ne-TAG.false, lt-leb _ _ c.if-words-gt2.true)

pub returns : goal.returns
unfolding is_state
returns c = rw (eq-eqb _ _ c.if-words-ne-STATE_WORDS.false, eq-eqb _ _ c.if-words-ne-TAG.false, le-leb _ _ c.if-words-gt2.false, c.streaks_good.ensures, c.focus_good.ensures)
