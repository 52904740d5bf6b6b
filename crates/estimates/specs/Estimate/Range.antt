-- Every estimate of a sound candidate is in range: reliefs in 0 to 1, at most 2^50 bytes to rewrite, an age of at most 2^53.
use Rattle.std.specs.Prelude.{◌≡◌, true, false, eqb, drop, Float}
use Rattle.std.proofs.Math.Bool.{cond}
use mathlib.Core.List.{List, [], ◌∷◌}
use Prim.Native.Nat.{ℕ, ◌+◌, ◌-◌, ◌^◌, ◌≤◌, max}
use Rattle.std.proofs.Common.{arith, lit<}
use Rattle.std.proofs.Math.ListN.{length, length-take}
use Rattle.std.specs.Float.Ieee.{of_int}
use borrow.Author.Tests.{le-ltb}
use Rattle.lists.specs.Tests.{by-test}
use Rattle.arith.specs.Floats.{f0, f1}
use Rattle.arith.specs.Floats.Range.{Plain, round_plain, div_plain}
use Rattle.arith.specs.Whole.{float_of}
use Rattle.arith.specs.Whole.Rounding.{float_exact}
use Rattle.records.specs.declared.tables.Table.{Table}
use Rattle.records.specs.declared.tables.Entry.{Entry}
use Rattle.candidate_records.specs.declared.Candidate.{Candidate}
use Rattle.candidate_faults.specs.Candidates.{in_unit, estimate_out}
use Rattle.candidate_faults.specs.InUnit.{zero_unit, one_unit, cut_unit, plain_low}
use Rattle.reliefs.specs.Reliefs.{at_level, bytes_of, share_of, first_share, relief_of}
use Rattle.estimates.specs.Estimate.{matched, off_level, oldest_of, is_l0_candidate, inputs_of, estimate_of}
use Rattle.estimates.specs.Estimate.Members.{matched-among, matched-small, level_and_rest, few_bytes, level-bytes}
use Rattle.estimates.specs.Estimate.Accepted.{Sound}

-- ---- reliefs

float_plain : (n : ℕ) → n ≤ 2 ^ 53 → Plain n (float_of n)
unfolding of_int
float_plain n h = round_plain n n 1 h (lit< tt) (omega arith)

abbrev InUnit : Float → Type 0
InUnit x = in_unit x ≡ true

pub share_unit : (bytes total budget : ℕ) → bytes ≤ 2 ^ 53 → total ≤ 2 ^ 53 → InUnit (share_of bytes total budget)
share_unit bytes total budget h k =
    let excess : ℕ = max (total - budget) 1 in
    cut_unit _ (plain_low bytes _ (div_plain bytes excess 1 (float_of bytes) (float_of excess) h (lit< tt) (omega arith) (float_plain bytes h) (float_exact excess (omega arith))))

first_unit : (es : List Entry) (bytes total : ℕ) → bytes ≤ 2 ^ 53 → total ≤ 2 ^ 53 → InUnit (first_share es bytes total)
unfolding first_share
first_unit [] bytes total h k = zero_unit
first_unit (e ∷ es) bytes total h k = share_unit bytes total e.budget h k

-- ---- all of it

module _ (ts : List Table) (next : ℕ) (es : List Entry) (ns : List ℕ) (c : Candidate) where
  pub estimate_in_range : Sound ts (length ns) c → next ≤ 2 ^ 53 → estimate_out (estimate_of ts next es ns c) ≡ false
  unfolding estimate_out estimate_of
  estimate_in_range s h =
      let found : List Table = matched ts (inputs_of ns c) in
      let level : ℕ = cond (is_l0_candidate c) 0 c.level in
      let input : ℕ = bytes_of (at_level level found) in
      let overlap : ℕ = bytes_of (off_level level found) in
      let few : length found ≤ 1024 = omega (arith, matched-small ts (inputs_of ns c), length-take c.count (drop c.start ns), s.short) in
      let all : input + overlap ≤ 2 ^ 50 = omega (arith, level_and_rest level found, few_bytes ts found s.small (matched-among ts (inputs_of ns c)) few) in
      let whole : bytes_of (at_level c.level ts) ≤ 2 ^ 50 = level-bytes ts c.level s.small s.few in
      rw (
        by-test InUnit (is_l0_candidate c) f1 f0 (λ _. one_unit) (λ _. zero_unit),
        by-test InUnit (is_l0_candidate c) f0 (relief_of ts es c.level input) (λ _. zero_unit) (λ _. first_unit _ input _ (omega arith) (omega arith)),
        le-ltb (2 ^ 50) (cond (eqb c.kind 3) 0 (input + overlap)) (by-test (λ (n : ℕ). n ≤ 2 ^ 50) (eqb c.kind 3) 0 (input + overlap) (λ _. omega arith) (λ _. all)),
        le-ltb (2 ^ 53) (next - oldest_of next (at_level level found)) (omega arith),
      )
