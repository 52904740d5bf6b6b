-- The candidates of a call with their scores, as records that carry their place, and the last of the best of them. Definitions only.
pub mod LastBest
use Rattle.std.specs.Prelude.{ℕ, suc, Bool, cond, ◌&&◌, List, [], ◌∷◌, ltb, eqb, Float, Option, Some, None}
use Rattle.std.specs.Float.Ieee.{le, lt}
use Rattle.arith.specs.Floats.{f1}
use Rattle.kinds.specs.declared.vector.PressureVector.{PressureVector}
use Rattle.candidate_records.specs.declared.Candidate.{Candidate}
use Rattle.candidate_records.specs.declared.CandidateEstimate.{CandidateEstimate}
use Rattle.scores.specs.Score.{score_of}

-- a candidate in the running
pub record Choice : Type 0 where
  pub place : ℕ
  pub kind : ℕ
  pub level : ℕ
  pub batch_len : ℕ
  pub relief : Float
  pub score : Float

unfoldable pub choices_from : PressureVector → ℕ → List Candidate → List CandidateEstimate → List Choice
choices_from v i [] es = []
choices_from v i (c ∷ cs) [] = []
choices_from v i (c ∷ cs) (e ∷ es) =
    record { place = i; kind = c.kind; level = c.level; batch_len = c.batch_len; relief = e.debt_relief; score = score_of v e }
    ∷ choices_from v (suc i) cs es

-- the best by an order, the last of equals; none of an empty list
unfoldable pub last_from : (Choice → Choice → Bool) → Choice → List Choice → Choice
last_from less best [] = best
last_from less best (c ∷ cs) = last_from less (cond (less c best) best c) cs

unfoldable pub last_best : (Choice → Choice → Bool) → List Choice → List Choice
last_best less [] = []
last_best less (c ∷ cs) = last_from less c cs ∷ []

abbrev pub lower_score : Choice → Choice → Bool
lower_score a b = lt a.score b.score

abbrev pub shorter : Choice → Choice → Bool
shorter a b = ltb a.batch_len b.batch_len

abbrev pub is_l0_choice : Choice → Bool
is_l0_choice c = eqb c.kind 1

abbrev pub on_level : ℕ → Choice → Bool
on_level l c = eqb c.level l

-- a batch that clears its level's excess
abbrev pub saturated : Choice → Bool
saturated c = eqb c.kind 2 && le f1 c.relief

-- the place of the first, or none
abbrev pub winner_of : List Choice → Option ℕ
winner_of [] = None
winner_of (c ∷ cs) = Some c.place
