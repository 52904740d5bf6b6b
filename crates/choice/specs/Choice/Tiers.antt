-- The tiers' answers, by what the search holds.
use Rattle.std.specs.Prelude.{◌≡◌, false, true, ℕ, ◌+◌, Float, Option, Some, None}
use Rattle.std.proofs.Math.Path.{refl}
use mathlib.Core.List.{List, [], ◌∷◌}
use Rattle.kinds.specs.declared.tier.SelectionTier.TheVariants.{None as NoTier, L0, FocusContinued, FocusReselected}
use Rattle.choice.specs.PickAnswer.{PickAnswer}
use Rattle.search.specs.Choices.{Choice, saturated, winner_of}
use Rattle.choice.specs.Choice.{yields, best_within, no_focus, focus_on, answer_of, reselected_by, reselected, top_level, continued_by, first_or}
use Rattle.search.specs.Search.{OfLevel, Batches, read_choice, best_of, held_in}

-- ---- the best of a level

module _ (cw ew : List ℕ) (ss : List Float) (l : ℕ) (all : List Choice) where
  abbrev held : Option ℕ → List Choice
  held w = held_in (read_choice cw ew ss) w

  held-winner : (w : Option ℕ) → w ≡ winner_of (held w)
  held-winner None = refl
  held-winner (Some k) = refl

  pub within_none : held None ≡ best_of (OfLevel l) all → None ≡ winner_of (best_within l all)
  unfolding best_within yields
  within_none e = rw (← e)

  module _ (k : ℕ) (e : held (Some k) ≡ best_of (OfLevel l) all) where
    pub within-kept : saturated (read_choice cw ew ss k) ≡ false → Some k ≡ winner_of (best_within l all)
    unfolding best_within yields
    within-kept s = rw (← e, s)

    pub within-yields : saturated (read_choice cw ew ss k) ≡ true → (w : Option ℕ) → held w ≡ best_of (Batches l) all → w ≡ winner_of (best_within l all)
    unfolding best_within yields
    within-yields s w b = rw (← e, s, ← b) (held-winner w)

-- ---- the answers

module _ (all : List Choice) where
  pub reselect_level : (l : ℕ) (top : List Choice) → Some l ≡ top_level top → answer_of (winner_of (best_within l all)) (focus_on l 1) FocusReselected ≡ reselected_by all top
  unfolding reselected_by
  reselect_level l [] e = cc
  reselect_level l (t ∷ ts) e = let q : l ≡ t.level = cc in rw q

  pub reselect_none : (top : List Choice) → None ≡ top_level top → answer_of None no_focus NoTier ≡ reselected_by all top
  unfolding reselected_by
  reselect_none [] e = refl
  reselect_none (t ∷ ts) e = cc

  pub continue_at : (l streak k : ℕ) (best : List Choice) → Some k ≡ winner_of best → answer_of (Some k) (focus_on l (streak + 1)) FocusContinued ≡ continued_by l streak all best
  unfolding continued_by
  continue_at l streak k [] e = cc
  continue_at l streak k (b ∷ bs) e = rw e

  pub continue_none : (l streak : ℕ) (best : List Choice) → None ≡ winner_of best → reselected all ≡ continued_by l streak all best
  unfolding continued_by
  continue_none l streak [] e = refl
  continue_none l streak (b ∷ bs) e = cc

pub first-at : (k : ℕ) (firsts : List Choice) (other : PickAnswer) → Some k ≡ winner_of firsts → answer_of (Some k) no_focus L0 ≡ first_or firsts other
unfolding first_or
first-at k [] other e = cc
first-at k (c ∷ cs) other e = rw e

pub first-none : (firsts : List Choice) (other : PickAnswer) → None ≡ winner_of firsts → other ≡ first_or firsts other
unfolding first_or
first-none [] other e = refl
first-none (c ∷ cs) other e = cc
