-- What a win says of the answer: nothing is refused, the winner's place, a tier, and the focus that is left.
use Rattle.std.specs.Prelude.{◌≡◌, refl, ℕ, ◌≤◌, Some}
use Rattle.std.proofs.Common.{arith}
use Rattle.kinds.specs.declared.focus.FocusState.{FocusState}
use Rattle.kinds.specs.declared.tier.SelectionTier.TheVariants.{None as NoTier, L0}
use Rattle.choice.specs.PickAnswer.{PickAnswer}
use Rattle.choice.specs.Choice.{no_focus, focus_max_jobs}
use Rattle.choice.specs.Choice.Wins.{WonBy, first, again, anew}

module _ {f : FocusState} {k kind level : ℕ} where
  pub won-accepted : {p : PickAnswer} → WonBy f k kind level p → p.refusal ≡ 0
  won-accepted (first e) = refl
  won-accepted (again n l s) = refl
  won-accepted (anew n) = refl

  pub won-place : {p : PickAnswer} → WonBy f k kind level p → p.winner ≡ Some k
  won-place (first e) = refl
  won-place (again n l s) = refl
  won-place (anew n) = refl

  pub won-tier : {p : PickAnswer} → WonBy f k kind level p → ¬ (p.tier ≡ NoTier)
  won-tier (first e) t = let z : ◌≡◌ {A = ℕ} 0 1 = cc in omega arith
  won-tier (again n l s) t = let z : ◌≡◌ {A = ℕ} 0 1 = cc in omega arith
  won-tier (anew n) t = let z : ◌≡◌ {A = ℕ} 0 1 = cc in omega arith

  -- an L0 clears the focus
  pub won-l0 : {p : PickAnswer} → WonBy f k kind level p → kind ≡ 1 → (p.tier ≡ L0) × (p.focus ≡ no_focus)
  won-l0 (first e) h = (refl, refl)
  won-l0 (again n l s) h = absurd (n h)
  won-l0 (anew n) h = absurd (n h)

  -- any other sets it to its level, with a streak of 1 to 3
  pub won-level : {p : PickAnswer} → WonBy f k kind level p → ¬ (kind ≡ 1) → (p.focus.current_focus ≡ Some level) × (1 ≤ p.focus.streak) × (p.focus.streak ≤ focus_max_jobs)
  won-level (first e) h = absurd (h e)
  won-level (again n l s) h = (refl, omega arith, omega arith)
  won-level (anew n) h = (refl, omega arith, omega arith)
