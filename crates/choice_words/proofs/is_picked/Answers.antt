-- `choice_words::is_picked` meets its contract.
use Rattle.std.proofs.Common.{eq-eqb, ne_eqb}
use Rattle.choice_words.specs.ChoiceWords.{is_picked}
use Rattle.choice_words.proofs.is_picked.Goals as goal

pub returns-then-words-ne6 : goal.returns-then-words-ne6
unfolding is_picked
returns-then-words-ne6 c = simp (ne_eqb _ _ c.if-words-ne6.true)

pub returns : goal.returns
unfolding is_picked
returns c = rw (eq-eqb _ _ c.if-words-ne6.false)
