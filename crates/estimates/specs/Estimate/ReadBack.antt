-- The words that estimation writes are read back as the estimates that they are of, in order.
use Rattle.std.specs.Prelude.{◌≡◌, refl, List, [], ◌∷◌, ◌++◌, map, ℕ, ◌-◌, max, T, get_or, Float}
use Rattle.std.proofs.Common.{⊎_elim, lit<}
use Rattle.std.specs.Float.{binary64}
use Rattle.std.specs.Float.Ieee.{fits}
use Rattle.std.specs.Float.Ieee.Bits.{of_bits-fits, of_bits-to_bits}
use Rattle.std.specs.Float.Ieee.Fits.{div-fits}
use Rattle.lists.specs.Tests.{by-test}
use Rattle.arith.specs.Floats.{f0, f1, minimum_of}
use Rattle.arith.specs.Floats.Clamp.{minimum_one_of}
use Rattle.arith.specs.Whole.{float_of}
use Rattle.records.specs.declared.tables.Table.{Table}
use Rattle.records.specs.declared.tables.Entry.{Entry}
use Rattle.candidate_records.specs.declared.Candidate.{Candidate}
use Rattle.candidate_records.specs.declared.CandidateEstimate.{CandidateEstimate}
use Rattle.candidate_records.specs.Candidates.{estimate_by, estimates_of}
use Rattle.records.specs.Joined.{records_flat}
use Rattle.reliefs.specs.Reliefs.{first_share}
use Rattle.estimates.specs.Estimate.{is_l0_candidate, estimate_of, nine_words}
use Rattle.estimates.specs.Estimate.Call.{estimate_words_of}

-- its floats are binary64
pub record Held (e : CandidateEstimate) : Type 0 where
  pub l0 : T (fits binary64 e.l0_relief)
  pub debt : T (fits binary64 e.debt_relief)
  pub read : T (fits binary64 e.read_relief)

pub estimate-back : (e : CandidateEstimate) → Held e → (rest : List ℕ) → estimate_by (λ k. get_or (nine_words e ++ rest) k 0) ≡ e
estimate-back e h rest = rw (of_bits-to_bits binary64 e.l0_relief h.l0, of_bits-to_bits binary64 e.debt_relief h.debt, of_bits-to_bits binary64 e.read_relief h.read)

abbrev Fits : Float → Type 0
Fits x = T (fits binary64 x)

one-fits : Fits f1
one-fits = of_bits-fits binary64 0x3ff0000000000000

zero-fits : Fits f0
zero-fits = of_bits-fits binary64 0

cut_fits : (x : Float) → Fits x → Fits (minimum_of x f1)
cut_fits x p = ⊎_elim (λ e. rw e p) (λ e. rw e one-fits) (minimum_one_of x f1)

share_fits : (es : List Entry) (bytes total : ℕ) → Fits (first_share es bytes total)
unfolding first_share
share_fits [] bytes total = zero-fits
share_fits (e ∷ es) bytes total = cut_fits _ (div-fits binary64 (float_of bytes) (float_of (max (total - e.budget) 1)))

module _ (ts : List Table) (next : ℕ) (es : List Entry) (ns : List ℕ) where
  pub estimate-held : (c : Candidate) → Held (estimate_of ts next es ns c)
  unfolding estimate_of
  estimate-held c =
      record {
        l0 = by-test Fits (is_l0_candidate c) f1 f0 (λ _. one-fits) (λ _. zero-fits);
        debt = by-test Fits (is_l0_candidate c) f0 _ (λ _. zero-fits) (λ _. share_fits _ _ _);
        read = by-test Fits (is_l0_candidate c) f1 f0 (λ _. one-fits) (λ _. zero-fits);
      }

  pub estimates-back : (cs : List Candidate) → estimates_of (estimate_words_of ts next es ns cs) ≡ map (estimate_of ts next es ns) cs
  unfolding estimates_of
  estimates-back = records_flat 9 estimate_by (lit< tt) _ (estimate_of ts next es ns) (λ c. refl) (λ c. estimate-back (estimate_of ts next es ns c) (estimate-held c))
