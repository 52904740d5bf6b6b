-- `state_words::focus_good` meets its contract.
use Rattle.std.proofs.Common.{eq-eqb, ne_eqb}
use Rattle.state_words.specs.StateWords.{focus_good}
use Rattle.state_words.proofs.focus_good.Goals as goal

pub returns-then-flag-eq0 : goal.returns-then-flag-eq0
unfolding focus_good
returns-then-flag-eq0 c = simp (eq-eqb _ _ c.if-flag-eq0.true)

pub returns : goal.returns
unfolding focus_good
returns c = simp (ne_eqb _ _ c.if-flag-eq0.false)
