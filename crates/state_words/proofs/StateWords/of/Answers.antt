-- `state_words::StateWords::of` meets its contract.
use Rattle.std.proofs.Common.{sym, ◌∙◌}
use Rattle.state_words.specs.StateWords.Sound.{good}
use Rattle.state_words.proofs.StateWords.of.Goals as goal

pub invariant_of-result : goal.invariant_of-result
invariant_of-result c = record { good = good _ (sym c.is_state.ensures ∙ c.if-is_state.true) }
