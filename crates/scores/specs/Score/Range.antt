-- Every score in range is a finite number with its sign clear: +0 or above, for any rewrite and any age.
use Rattle.std.specs.Prelude.{◌≡◌, true, ℕ, ◌+◌, ◌^◌, max, ◌<◌, T, Float}
use Rattle.std.proofs.Common.{sym, subst, arith, lit≤, pow_pos, pow_mono}
use Rattle.std.specs.Float.{binary64}
use Rattle.std.specs.Float.Ieee.{le, fits, of_bits}
use Rattle.std.specs.Float.Ieee.Fits.{and_l, and_r, div-fits}
use Rattle.arith.specs.Floats.{f0, f1}
use Rattle.arith.specs.Whole.{rounded_of}
use Rattle.arith.specs.Whole.Rounding.{rounded_le}
use Rattle.arith.specs.Root.{root_of, root_digits, root_shift}
use Rattle.arith.specs.Root.Squares.{shift_le, root_rooted}
use Rattle.arith.specs.Root.Nearest.{root_value}
use Rattle.arith.specs.Logarithm.{ln_of, units_of}
use Rattle.arith.specs.Logarithm.Value.{ln_value, units_lt}
use Rattle.kinds.specs.declared.vector.PressureVector.{PressureVector}
use Rattle.candidate_records.specs.declared.CandidateEstimate.{CandidateEstimate}
use Rattle.candidate_faults.specs.Candidates.{in_unit}
use Rattle.scores.specs.Score.{age_bonus_weight, benefit_of, score_of}
use Rattle.arith.specs.Floats.Range.{Small, Plain, value_plain, mul_plain, mul_small, add_small, add_plain, div_plain}
use Rattle.arith.specs.Floats.InUnit.{unit_small}

pub record InRange (v : PressureVector) (e : CandidateEstimate) : Type 0 where
  pub vector : (in_unit v.l0 ≡ true) × (in_unit v.deep_debt ≡ true) × (in_unit v.read ≡ true)
  pub reliefs : (in_unit e.l0_relief ≡ true) × (in_unit e.debt_relief ≡ true) × (in_unit e.read_relief ≡ true)
  pub rewrite : e.estimated_rewrite_bytes < 2 ^ 64
  pub aged : e.age < 2 ^ 64

-- ---- the parts

pub in_unit_lem : (x : Float) → in_unit x ≡ true → Small 1 x
unfolding in_unit
in_unit_lem x e = let t = subst T (sym e) tt in unit_small x (and_l (le f0 x) (le x f1) t, and_r (le f0 x) (le x f1) t)

ln_plain : (n : ℕ) → n < 2 ^ 64 → Plain 512 (ln_of n)
ln_plain n h =
    let u = units_of (rounded_of n + 1) in
    value_plain 512 u (2 ^ 44) (ln_of n) (pow_pos 44) (omega (arith, units_lt (rounded_of n + 1) (omega (arith, rounded_le n h)))) (ln_value n h)

weight : Plain 1 age_bonus_weight
unfolding of_bits
weight = lit≤ tt

-- ---- the score

pub benefit_plain : (v : PressureVector) (e : CandidateEstimate) → InRange v e → Plain 515 (benefit_of v e)
unfolding benefit_of
benefit_plain v e r =
    let l0 = mul_small 1 1 v.l0 e.l0_relief (lit≤ tt) (in_unit_lem _ r.vector.0) (in_unit_lem _ r.reliefs.0) in
    let debt = mul_small 1 1 v.deep_debt e.debt_relief (lit≤ tt) (in_unit_lem _ r.vector.1) (in_unit_lem _ r.reliefs.1) in
    let read = mul_small 1 1 v.read e.read_relief (lit≤ tt) (in_unit_lem _ r.vector.2) (in_unit_lem _ r.reliefs.2) in
    add_plain 3 512 _ _ (lit≤ tt) (add_small 2 1 _ _ (lit≤ tt) (add_small 1 1 _ _ (lit≤ tt) l0 debt) read) (mul_plain 512 1 (ln_of e.age) age_bonus_weight (lit≤ tt) (ln_plain e.age r.aged) weight)

pub score_plain : (v : PressureVector) (e : CandidateEstimate) → InRange v e → Plain 515 (score_of v e)
unfolding score_of
score_plain v e r =
    let n = max e.estimated_rewrite_bytes 1 in
    let w = rounded_of n in
    let some : 0 < n = omega arith in
    let most : n < 2 ^ 64 = omega (arith, r.rewrite) in
    div_plain 515 (root_digits w) (2 ^ root_shift w) (benefit_of v e) (root_of n) (lit≤ tt) (pow_pos (root_shift w)) (omega (arith, pow_mono (shift_le w), (root_rooted n some most).least)) (benefit_plain v e r) (root_value n some most)

pub score-fits : (v : PressureVector) (e : CandidateEstimate) → T (fits binary64 (score_of v e))
unfolding score_of
score-fits v e = div-fits binary64 (benefit_of v e) (root_of (max e.estimated_rewrite_bytes 1))
