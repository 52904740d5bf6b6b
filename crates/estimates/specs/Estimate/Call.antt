-- The call `estimate_candidates`: its answer and every word of the lent buffer. Definitions only.
use Rattle.std.specs.Prelude.{ℕ, cond, length, drop, eqb}
use mathlib.Core.List.{List, ◌++◌, flat_map}
use Rattle.refusals.specs.Refusals.{none}
use Rattle.records.specs.declared.tables.Table.{Table}
use Rattle.records.specs.declared.tables.Entry.{Entry}
use Rattle.records.specs.Tables.{tables_of, entries_of}
use Rattle.candidate_records.specs.declared.Candidate.{Candidate}
use Rattle.candidate_records.specs.Candidates.{candidates_of}
use Rattle.estimate_faults.specs.Faults.{EstimateInput, estimate_fault}
use Rattle.estimates.specs.Estimate.{estimate_of, nine_words}

-- one estimate for each candidate, in order
abbrev pub estimate_words_of : List Table → ℕ → List Entry → List ℕ → List Candidate → List ℕ
estimate_words_of ts next es ns cs = flat_map (λ c. nine_words (estimate_of ts next es ns c)) cs

abbrev pub estimate_words : EstimateInput → List ℕ
estimate_words q = estimate_words_of (tables_of q.tables) q.next (entries_of q.over) q.numbers (candidates_of q.candidates)

-- the refusal, 0 for none, and how many estimates there are
pub record Estimated : Type 0 where
  pub refusal : ℕ
  pub estimates : ℕ

unfoldable pub estimated_of : EstimateInput → ℕ → Estimated
estimated_of q room =
    cond (eqb (estimate_fault q room) none) (record { refusal = none; estimates = length (candidates_of q.candidates) })
    (record { refusal = estimate_fault q room; estimates = 0 })

abbrev pub estimates_out : EstimateInput → List ℕ → List ℕ
estimates_out q old = cond (eqb (estimate_fault q (length old)) none) (estimate_words q ++ drop (length (estimate_words q)) old) old
