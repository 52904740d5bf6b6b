-- The choices of a call as the code reads them, place by place, and what the search compares. Definitions only.
pub mod Reading
pub mod Pass
use Rattle.std.specs.Prelude.{ℕ, suc, Bool, true, false, cond, ◌<◌, ◌≡◌, ◌&&◌, List, [], ◌∷◌, length, get_or, replicate, eqb, Float, Option, Some, None}
use Rattle.std.proofs.lemmas.List.Edits.{sets}
use Rattle.std.specs.Float.{nan}
use Rattle.lists.specs.Filter.{filter_of}
use Rattle.lists.specs.Records.{tabulate}
use Rattle.arith.specs.Floats.{f0}
use Rattle.kinds.specs.declared.vector.PressureVector.{PressureVector}
use Rattle.candidate_records.specs.declared.Candidate.{Candidate}
use Rattle.candidate_records.specs.declared.CandidateEstimate.{CandidateEstimate}
use Rattle.candidate_records.specs.Candidates.{candidates_of, estimates_of, candidate_at, estimate_at}
use Rattle.faults.specs.Limits.{max_candidates}
use Rattle.scores.specs.Score.{score_of}
use Rattle.search.specs.Choices.{Choice, last_best, lower_score, shorter, saturated, on_level}

-- ---- what is read

unfoldable pub scores_of : PressureVector → List CandidateEstimate → List Float
scores_of v [] = []
scores_of v (e ∷ es) = score_of v e ∷ scores_of v es

-- the array: an estimate past it is left out, and the rest of it is 0
abbrev pub score_array : PressureVector → List CandidateEstimate → List Float
score_array v es = sets (replicate max_candidates f0) 0 (scores_of v es)

-- the choice at a place, off the candidates' words, the estimates' words and an array of scores; past the array the score is a NaN
abbrev pub read_choice : List ℕ → List ℕ → List Float → ℕ → Choice
read_choice cw ew ss k =
    let c = candidate_at (candidates_of cw) k in
    record { place = k; kind = c.kind; level = c.level; batch_len = c.batch_len; relief = (estimate_at (estimates_of ew) k).debt_relief; score = get_or ss k nan }

abbrev pub read_choices : List ℕ → List ℕ → List Float → List Choice
read_choices cw ew ss = tabulate (read_choice cw ew ss) (length (candidates_of cw)) 0

unfoldable pub first_l0 : ℕ → List Candidate → Option ℕ
first_l0 i [] = None
first_l0 i (c ∷ cs) = cond (eqb c.kind 1) (Some i) (first_l0 (suc i) cs)

-- ---- what is compared

-- every score, a level's scores, or the lengths of a level's saturated batches
pub data Search : Type 0 where
  All : Search
  OfLevel : ℕ → Search
  Batches : ℕ → Search

abbrev pub compared : Search → Choice → Bool
compared All c = true
compared (OfLevel l) c = on_level l c
compared (Batches l) c = on_level l c && saturated c

abbrev pub below : Search → Choice → Choice → Bool
below All = lower_score
below (OfLevel l) = lower_score
below (Batches l) = shorter

-- of the first n places a test says what is compared, and a test of two places what is below what
abbrev pub Tests : Search → (ℕ → Choice) → ℕ → (ℕ → Bool → Type 0) → Type 0
Tests s read n says = (i : ℕ) (t : Bool) → i < n → says i t → compared s (read i) ≡ t

abbrev pub Compares : Search → (ℕ → Choice) → ℕ → (ℕ → ℕ → Bool → Type 0) → Type 0
Compares s read n says = (i k : ℕ) (t : Bool) → i < n → k < n → says i k t → below s (read i) (read k) ≡ t

-- the best of what is compared, the last on a tie
abbrev pub best_of : Search → List Choice → List Choice
best_of All cs = last_best lower_score cs
best_of (OfLevel l) cs = last_best lower_score (filter_of (on_level l) cs)
best_of (Batches l) cs = last_best shorter (filter_of saturated (filter_of (on_level l) cs))

-- the choice at a winner's place, or none
abbrev pub held_in : (ℕ → Choice) → Option ℕ → List Choice
held_in read None = []
held_in read (Some k) = read k ∷ []

-- one more is less than the best so far
abbrev pub loses : (Choice → Choice → Bool) → List Choice → Choice → Bool
loses less [] c = false
loses less (b ∷ bs) c = less c b
