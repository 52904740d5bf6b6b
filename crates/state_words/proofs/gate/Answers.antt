-- `state_words::gate` meets its contract.
use Rattle.std.proofs.Common.{sym, ◌∙◌}
use Rattle.state_words.specs.StateWords.{gated}
use Rattle.state_words.proofs.gate.Goals as goal

pub returns-then-is_state : goal.returns-then-is_state
unfolding gated
returns-then-is_state c = simp (sym c.is_state.ensures ∙ c.if-is_state.true)

pub returns : goal.returns
unfolding gated
returns c = simp (sym c.is_state.ensures ∙ c.if-is_state.false)
