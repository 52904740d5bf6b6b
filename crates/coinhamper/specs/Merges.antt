-- Generation and scores on numbers and words. Definitions only.
pub mod Told
use Rattle.std.specs.Prelude.{ℕ, ◌≡◌, cond, List, length, eqb, Float}
use Rattle.refusals.specs.Refusals.{none}
use Rattle.candidate_records.specs.declared.CandidateEstimate.{CandidateEstimate}
use Rattle.candidates.specs.Generate.{GenerateInput, generate_fault, made_of, candidate_words, number_words, front_of}

-- generation: the refusal, both buffers, and both counts, which are left alone where it is refused
pub record Generation (q : GenerateInput) (c₀ c₁ n₀ n₁ : List ℕ) (k₀ k₁ m₀ m₁ : ℕ) (r : ℕ) : Type 0 where
  pub refusal : r ≡ generate_fault q (length c₀) (length n₀)
  pub candidates : c₁ ≡ front_of r (candidate_words q) c₀
  pub numbers : n₁ ≡ front_of r (number_words q) n₀
  pub candidate_count : k₁ ≡ cond (eqb r none) (length (made_of q)) k₀
  pub number_count : m₁ ≡ cond (eqb r none) (length (number_words q)) m₀

-- an estimate with what a score looks at
abbrev pub estimate_with : ℕ → ℕ → Float → Float → Float → CandidateEstimate
estimate_with rewrite age l0 debt read =
    record {
      input_bytes = 0;
      overlap_bytes = 0;
      estimated_rewrite_bytes = rewrite;
      debt_relief_bytes = 0;
      l0_files_removed = 0;
      age = age;
      l0_relief = l0;
      debt_relief = debt;
      read_relief = read;
    }
