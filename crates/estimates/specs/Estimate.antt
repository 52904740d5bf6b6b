-- What one candidate costs and buys, as the Rust's `estimate_candidate` has it, on lists. Definitions only.
pub mod Call
pub mod Members
pub mod Tally
pub mod Accepted
pub mod Range
pub mod ReadBack
use Rattle.std.specs.Prelude.{ℕ, ◌+◌, ◌-◌, min, Bool, not, cond, length, take, drop, eqb}
use mathlib.Core.List.{List, [], ◌∷◌, flat_map}
use Rattle.std.specs.Float.{binary64}
use Rattle.std.specs.Float.Ieee.{to_bits}
use Rattle.lists.specs.Filter.{filter_of}
use Rattle.arith.specs.Floats.{f0, f1}
use Rattle.records.specs.declared.tables.Table.{Table}
use Rattle.records.specs.declared.tables.Entry.{Entry}
use Rattle.candidate_records.specs.declared.Candidate.{Candidate}
use Rattle.candidate_records.specs.declared.CandidateEstimate.{CandidateEstimate}
use Rattle.lookups.specs.Lookups.{lookup}
use Rattle.reliefs.specs.Reliefs.{at_level, bytes_of, relief_of}

-- the tables of a list of numbers; a number that no table has counts for nothing
abbrev pub matched : List Table → List ℕ → List Table
matched ts ns = flat_map (lookup ts) ns

abbrev pub off_level : ℕ → List Table → List Table
off_level l ts = filter_of (λ t. not (eqb t.level l)) ts

-- the smallest number of some tables, and `other` where there is none
unfoldable pub oldest_from : ℕ → List Table → ℕ
oldest_from best [] = best
oldest_from best (t ∷ ts) = oldest_from (min best t.number) ts

unfoldable pub oldest_of : ℕ → List Table → ℕ
oldest_of other [] = other
oldest_of other (t ∷ ts) = oldest_from t.number ts

abbrev pub is_l0_candidate : Candidate → Bool
is_l0_candidate c = eqb c.kind 1

-- a candidate's own numbers in the number list
abbrev pub inputs_of : List ℕ → Candidate → List ℕ
inputs_of ns c = take c.count (drop c.start ns)

unfoldable pub estimate_of : List Table → ℕ → List Entry → List ℕ → Candidate → CandidateEstimate
estimate_of ts next es ns c =
    let found = matched ts (inputs_of ns c) in
    let level = cond (is_l0_candidate c) 0 c.level in
    let input = bytes_of (at_level level found) in
    let overlap = bytes_of (off_level level found) in
    record {
      input_bytes = input;
      overlap_bytes = overlap;
      estimated_rewrite_bytes = cond (eqb c.kind 3) 0 (input + overlap);
      debt_relief_bytes = input;
      l0_files_removed = cond (is_l0_candidate c) (length (at_level 0 found)) 0;
      age = next - oldest_of next (at_level level found);
      l0_relief = cond (is_l0_candidate c) f1 f0;
      debt_relief = cond (is_l0_candidate c) f0 (relief_of ts es c.level input);
      read_relief = cond (is_l0_candidate c) f1 f0;
    }

-- its nine words, floats as bits
abbrev pub nine_words : CandidateEstimate → List ℕ
nine_words e =
    e.input_bytes ∷ e.overlap_bytes ∷ e.estimated_rewrite_bytes ∷ e.debt_relief_bytes ∷ e.l0_files_removed ∷ e.age
    ∷ to_bits binary64 e.l0_relief ∷ to_bits binary64 e.debt_relief ∷ to_bits binary64 e.read_relief ∷ []
