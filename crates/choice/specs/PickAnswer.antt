-- What `pick_best_cause_aware` answers, with its refusal's number; where it is refused, no winner, the old focus and no tier. Definitions only.
use Rattle.std.specs.Prelude.{ℕ, Option}
use Rattle.kinds.specs.declared.focus.FocusState.{FocusState}
use Rattle.kinds.specs.declared.tier.SelectionTier.{SelectionTier}

pub record PickAnswer : Type 0 where
  pub refusal : ℕ
  pub winner : Option ℕ
  pub focus : FocusState
  pub tier : SelectionTier
