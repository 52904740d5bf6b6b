-- The choice by numbers, and the six words of one. Definitions only.
pub mod Told
use Rattle.std.specs.Prelude.{ℕ, Bool, cond, ◌&&◌, List, length, get_or, leb, eqb, Some, None}
use Rattle.refusals.specs.Refusals.{none}
use Rattle.kinds.specs.declared.vector.PressureVector.{PressureVector}
use Rattle.kinds.specs.declared.tier.SelectionTier.TheVariants.{None as NoTier}
use Rattle.decisions.specs.Decision.{tier_from}
use Rattle.choice.specs.PickAnswer.{PickAnswer}
use Rattle.choice.specs.Choice.Call.{picked_of}
use Rattle.state_words.specs.StateWords.{no_such_case, focus_good, focus_from}

-- numbers that are no case come before what is wrong with the words
unfoldable pub case_fault : Bool → ℕ → ℕ
case_fault good refusal = cond good refusal no_such_case

abbrev pub picked_by : PressureVector → ℕ → ℕ → ℕ → List ℕ → List ℕ → PickAnswer
picked_by v flag level streak cw ew = picked_of v (focus_from flag level streak) cw ew

abbrev pub pick_refusal : ℕ → ℕ → PickAnswer → ℕ
pick_refusal flag level p = case_fault (focus_good flag level) p.refusal

-- ---- the six words of a choice: the decision has only its winner and its tier

unfoldable pub is_picked : List ℕ → Bool
is_picked ws = eqb (length ws) 6 && (leb (get_or ws 0 0) 1 && leb (get_or ws 5 0) 3)

unfoldable pub picked_in : List ℕ → PickAnswer
picked_in ws =
    record {
      refusal = none;
      winner = cond (is_picked ws) (cond (eqb (get_or ws 0 0) 1) (Some (get_or ws 1 0)) None) None;
      focus = record { current_focus = None; streak = 0 };
      tier = cond (is_picked ws) (tier_from (get_or ws 5 0)) NoTier;
    }
