-- The choice, as the Rust's on lists (filter, last maximum): the best of a level, and the three tiers. Definitions only.
pub mod Call
pub mod Refusal
pub mod Tiers
pub mod Accepted
pub mod Won
pub mod Laws
pub mod Wins
pub mod Focus
use Rattle.std.specs.Prelude.{ℕ, ◌+◌, cond, List, [], ◌∷◌, ltb, Option, Some, None}
use Rattle.lists.specs.Filter.{filter_of}
use Rattle.kinds.specs.declared.focus.FocusState.{FocusState}
use Rattle.kinds.specs.declared.tier.SelectionTier.{SelectionTier}
use Rattle.kinds.specs.declared.tier.SelectionTier.TheVariants.{None as NoTier, L0, FocusContinued, FocusReselected}
use Rattle.choice.specs.declared.Picked.{Picked}
use Rattle.choice.specs.PickAnswer.{PickAnswer}
use Rattle.search.specs.Choices.{Choice, last_best, lower_score, shorter, is_l0_choice, on_level, saturated, winner_of}

-- a saturated best yields to the longest such batch of its level, the last on a tie
unfoldable pub yields : List Choice → List Choice → List Choice
yields cs [] = []
yields cs (best ∷ more) = cond (saturated best) (last_best shorter (filter_of saturated cs)) (best ∷ [])

-- `pick_best_within_level`
unfoldable pub best_within : ℕ → List Choice → List Choice
best_within l cs = yields (filter_of (on_level l) cs) (last_best lower_score (filter_of (on_level l) cs))

-- ---- the three tiers

abbrev pub no_focus : FocusState
no_focus = record { current_focus = None; streak = 0 }

abbrev pub focus_on : ℕ → ℕ → FocusState
focus_on l n = record { current_focus = Some l; streak = n }

abbrev pub answer_of : Option ℕ → FocusState → SelectionTier → PickAnswer
answer_of w f t = record { refusal = 0; winner = w; focus = f; tier = t }

-- an accepted choice
abbrev pub answered : Picked → PickAnswer
answered p = answer_of p.winner p.focus p.tier

-- tier 3: the best score overall says the level
unfoldable pub reselected_by : List Choice → List Choice → PickAnswer
reselected_by cs [] = answer_of None no_focus NoTier
reselected_by cs (top ∷ more) = answer_of (winner_of (best_within top.level cs)) (focus_on top.level 1) FocusReselected

abbrev pub reselected : List Choice → PickAnswer
reselected cs = reselected_by cs (last_best lower_score cs)

-- the level of the best overall
abbrev pub top_level : List Choice → Option ℕ
top_level [] = None
top_level (top ∷ more) = Some top.level

-- tier 2: the focus level while it has candidates
unfoldable pub continued_by : ℕ → ℕ → List Choice → List Choice → PickAnswer
continued_by l streak cs [] = reselected cs
continued_by l streak cs (best ∷ more) = answer_of (Some best.place) (focus_on l (streak + 1)) FocusContinued

abbrev pub continued : ℕ → ℕ → List Choice → PickAnswer
continued l streak cs = continued_by l streak cs (best_within l cs)

-- so many jobs in a row go to one level
abbrev pub focus_max_jobs : ℕ
focus_max_jobs = 3

unfoldable pub focused : Option ℕ → ℕ → List Choice → PickAnswer
focused None streak cs = reselected cs
focused (Some l) streak cs = cond (ltb streak focus_max_jobs) (continued l streak cs) (reselected cs)

-- tier 1: the first L0 in the list
unfoldable pub first_or : List Choice → PickAnswer → PickAnswer
first_or [] other = other
first_or (c ∷ cs) other = answer_of (Some c.place) no_focus L0

unfoldable pub choice_of : FocusState → List Choice → PickAnswer
choice_of f cs = first_or (filter_of is_l0_choice cs) (focused f.current_focus f.streak cs)
