-- Rust's `total_cmp`, and that on finite floats with their signs clear, so on scores in range, it is the order of `lt`.
use Rattle.std.specs.Prelude.{◌≡◌, refl, Bool, true, false, cond, ℕ, zero, suc, ◌+◌, ◌-◌, ◌*◌, ◌/◌, ◌%◌, ◌^◌, ◌≤◌, ◌<◌, T, leb, ltb, ℤ, Float}
use Rattle.std.proofs.Common.{sym, ◌∙◌, ap, inl, inr, true≢false, zero-add, le_trans, le_of_eq, lt_of_le_of_lt, eq-or-lt_of_le, mul_right_comm, mul-le-mul_right, le-div_iff_mul-le, lt_irrefl, arith, pow-add, pow_pos, ltb-true, ltb-false, lt-ltb, le-ltb}
use Rattle.std.specs.Float.{nan, inf, fin, binary64}
use Rattle.std.specs.Float.Ieee.{up, down, size, lt, fits, of_bits, to_bits}
use Rattle.std.specs.Float.Ieee.Bits.{of_bits-to_bits, to_bits-lt}
use Rattle.std.specs.Float.Ieee.Digits.{size-lt, size-le, size_reaches}
use Rattle.std.specs.Float.Ieee.Fits.{down_pos, kept-lt}
use Rattle.std.specs.Float.Ieee.Nearest.{div_mono}
use Rattle.std.proofs.lemmas.Bool.{lt-leb}
use Rattle.arith.specs.Floats.Range.{Plain}
use Rattle.kinds.specs.declared.vector.PressureVector.{PressureVector}
use Rattle.candidate_records.specs.declared.CandidateEstimate.{CandidateEstimate}
use Rattle.scores.specs.Score.{score_of}
use Rattle.scores.specs.Score.Range.{InRange, score_plain, score-fits}

-- of two bit patterns: by sign, then by magnitude, which counts backwards where the sign is set
unfoldable pub total_below : ℕ → ℕ → Bool
total_below a b =
    cond (leb (2 ^ 63) a) (cond (leb (2 ^ 63) b) (ltb (b % 2 ^ 63) (a % 2 ^ 63)) true)
    (cond (leb (2 ^ 63) b) false (ltb (a % 2 ^ 63) (b % 2 ^ 63)))

unfoldable pub total_less : Float → Float → Bool
total_less x y = total_below (to_bits binary64 x) (to_bits binary64 y)

-- ---- the pattern of n units of the smallest value

abbrev code : ℕ → ℕ
code n = (size n - 53) * 2 ^ 52 + n / 2 ^ (size n - 53)

code_mono : (a b : ℕ) → a ≤ b → code a ≤ code b
code_mono a b h =
    let j = size a - 53 in
    let k = size b - 53 in
    let fewer : j ≤ k = omega (arith, size-le a (size b) (lt_of_le_of_lt h (size-lt b))) in
    elim (eq-or-lt_of_le fewer) [
      | inl e ↦ rw e (omega (arith, div_mono a (2 ^ k) b (2 ^ k) (pow_pos k) (pow_pos k) (mul-le-mul_right (2 ^ k) h)))
      | inr l ↦
          let reach : 2 ^ 52 * 2 ^ k ≤ b = le_trans (le_of_eq (sym (pow-add 2 52 k))) (size_reaches b (52 + k) (omega arith)) in
          omega (arith, kept-lt 53 a, (le-div_iff_mul-le {x = 2 ^ 52} (pow_pos k)).1 reach)
    ]

plain_bits : (m : ℕ) (e : ℤ) → to_bits binary64 (fin false m e) ≡ code (m * up e * 2 ^ 1074 / down e)
unfolding to_bits
plain_bits m e = rw zero-add

turned : (m : ℕ) (e : ℤ) → T (fits binary64 (fin false m e)) → T (fits binary64 (fin true m e))
unfolding fits
turned zero e t = t
turned (suc m) e t = t

plain_lt : (m : ℕ) (e : ℤ) → T (fits binary64 (fin false m e)) → to_bits binary64 (fin false m e) < 2 ^ 63
unfolding to_bits
plain_lt m e t = omega (arith, to_bits-lt binary64 (fin true m e) (turned m e t))

-- ---- the order

bits_le : (m n : ℕ) (e d : ℤ) → m * up e * down d ≤ n * up d * down e → to_bits binary64 (fin false m e) ≤ to_bits binary64 (fin false n d)
bits_le m n e d h =
    rw (plain_bits m e, plain_bits n d)
    (code_mono (m * up e * 2 ^ 1074 / down e) (n * up d * 2 ^ 1074 / down d)
    (div_mono (m * up e * 2 ^ 1074) (down e) (n * up d * 2 ^ 1074) (down d) (down_pos e) (down_pos d) (le_trans (le_of_eq (mul_right_comm (m * up e) (2 ^ 1074) (down d))) (le_trans (mul-le-mul_right (2 ^ 1074) h) (le_of_eq (mul_right_comm (n * up d) (down e) (2 ^ 1074)))))))

never : (x y : Float) → lt x y ≡ true → x ≡ y → ⊥
unfolding lt
never x y t e = irreflexive y (rw e at t)
  where
    irreflexive : (z : Float) → lt z z ≡ true → ⊥
    irreflexive nan t = true≢false (sym t)
    irreflexive (inf true) t = true≢false (sym t)
    irreflexive (inf false) t = true≢false (sym t)
    irreflexive (fin true m e) t = lt_irrefl (m * up e * down e) (ltb-true (m * up e * down e) (m * up e * down e) t)
    irreflexive (fin false m e) t = lt_irrefl (m * up e * down e) (ltb-true (m * up e * down e) (m * up e * down e) t)

bits_lt : (x y : Float) → T (fits binary64 x) → T (fits binary64 y) → lt x y ≡ true → to_bits binary64 x ≤ to_bits binary64 y → to_bits binary64 x < to_bits binary64 y
bits_lt x y p q t h = elim (eq-or-lt_of_le h) [
  | inl b ↦ absurd (never x y t (sym (of_bits-to_bits binary64 x p) ∙ ap (of_bits binary64) b ∙ of_bits-to_bits binary64 y q))
  | inr l ↦ l
]

-- where no sign is set the patterns' order is the total one
clear-signs : (a b : ℕ) → a < 2 ^ 63 → b < 2 ^ 63 → total_below a b ≡ ltb a b
unfolding total_below
clear-signs a b A B =
    let i : a % 2 ^ 63 ≡ a = omega arith in
    let j : b % 2 ^ 63 ≡ b = omega arith in
    rw (lt-leb (2 ^ 63) a A, lt-leb (2 ^ 63) b B, i, j)

pub total_is_lt : (j k : ℕ) (x y : Float) → Plain j x → Plain k y → T (fits binary64 x) → T (fits binary64 y) → total_less x y ≡ lt x y
unfolding total_less lt
total_is_lt j k nan y g h p q = elim g [ ]
total_is_lt j k (inf _) y g h p q = elim g [ ]
total_is_lt j k (fin true m e) y g h p q = elim g [ ]
total_is_lt j k (fin false m e) nan g h p q = elim h [ ]
total_is_lt j k (fin false m e) (inf _) g h p q = elim h [ ]
total_is_lt j k (fin false m e) (fin true n d) g h p q = elim h [ ]
total_is_lt j k (fin false m e) (fin false n d) g h p q =
    clear-signs (to_bits binary64 (fin false m e)) (to_bits binary64 (fin false n d)) (plain_lt m e p) (plain_lt n d q) ∙ go (ltb (m * up e * down d) (n * up d * down e)) refl
  where
    go : (t : Bool) → ltb (m * up e * down d) (n * up d * down e) ≡ t → ltb (to_bits binary64 (fin false m e)) (to_bits binary64 (fin false n d)) ≡ t
    go true t = lt-ltb _ _ (bits_lt (fin false m e) (fin false n d) p q t (bits_le m n e d (omega (arith, ltb-true))))
    go false t = le-ltb _ _ (bits_le n m d e (ltb-false _ _ t))

pub total-order : (v : PressureVector) (a b : CandidateEstimate) → InRange v a → InRange v b → total_less (score_of v a) (score_of v b) ≡ lt (score_of v a) (score_of v b)
total-order v a b p q = total_is_lt 515 515 (score_of v a) (score_of v b) (score_plain v a p) (score_plain v b q) (score-fits v a) (score-fits v b)
