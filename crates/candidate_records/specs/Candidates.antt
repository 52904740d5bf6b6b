-- Lent words as records: six to a candidate, nine to an estimate, whose floats are read from their bits; what is left over at the end is no record. Definitions only.
use Rattle.std.specs.Prelude.{ℕ, List, get_or}
use Rattle.std.specs.Float.{binary64}
use Rattle.std.specs.Float.Ieee.{of_bits}
use Rattle.records.specs.Words.{records_by}
use Rattle.candidate_records.specs.declared.Candidate.{Candidate}
use Rattle.candidate_records.specs.declared.CandidateEstimate.{CandidateEstimate}

-- a record by its words
abbrev pub candidate_by : (ℕ → ℕ) → Candidate
candidate_by f =
    record { kind = f 0; level = f 1; batch_len = f 2; output_level = f 3; start = f 4; count = f 5 }

abbrev pub estimate_by : (ℕ → ℕ) → CandidateEstimate
estimate_by f =
    record {
      input_bytes = f 0;
      overlap_bytes = f 1;
      estimated_rewrite_bytes = f 2;
      debt_relief_bytes = f 3;
      l0_files_removed = f 4;
      age = f 5;
      l0_relief = of_bits binary64 (f 6);
      debt_relief = of_bits binary64 (f 7);
      read_relief = of_bits binary64 (f 8);
    }

unfoldable pub candidates_of : List ℕ → List Candidate
candidates_of = records_by 6 candidate_by

unfoldable pub estimates_of : List ℕ → List CandidateEstimate
estimates_of = records_by 9 estimate_by

-- a record of zeros, which stands past the last
abbrev pub no_candidate : Candidate
no_candidate = candidate_by (λ _. 0)

abbrev pub no_estimate : CandidateEstimate
no_estimate = estimate_by (λ _. 0)

-- the record at a place, counted from 0
abbrev pub candidate_at : List Candidate → ℕ → Candidate
candidate_at cs i = get_or cs i no_candidate

abbrev pub estimate_at : List CandidateEstimate → ℕ → CandidateEstimate
estimate_at es i = get_or es i no_estimate
