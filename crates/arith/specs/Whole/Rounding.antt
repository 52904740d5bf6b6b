-- The laws of a whole number as a binary64: its value is `rounded_of`, which keeps the order, and up to 2^53 nothing is rounded.
-- Assumes nothing.
use Rattle.std.specs.Prelude.{◌≡◌, ℕ, zero, suc, ◌+◌, ◌-◌, ◌*◌, ◌/◌, ◌%◌, ◌^◌, ◌<◌, ◌≤◌, false, T, refl}
use Rattle.std.proofs.Common.{sym, ap, ◌∙◌, subst, inl, le_trans, le_of_eq, le_of_lt, lt_of_le_of_lt, lt_of_lt_of_le, lt_of_not-le, not-le_of_lt, eq-or-lt_of_le, mul_assoc, mul-pos, mul-le-mul_right, mul-div_cancel, mod-lt, div-add-mod', le-div_iff_mul-le, arith, lit<, lit≤, pow-add, pow_pos, pow_mono}
use Rattle.std.proofs.Math.Logic.{inr}
use Prim.Native.Nat.{zero-le, compare}
use Rattle.std.proofs.Math.Nat.{mul-one, div-one, mod-one, pow-succ'}
use Rattle.std.proofs.Math.Decide.{dec_le}
use Rattle.std.specs.Int.Count.{count_leading_zeros}
use Rattle.std.proofs.lemmas.Nat.{leading_length}
use Rattle.std.specs.Float.{Format, binary64}
use Rattle.std.specs.Float.Ieee.{prec, low, size, round, of_int, le}
use Rattle.std.specs.Float.Ieee.Digits.{size-lt, size-le, size_reaches}
use Rattle.std.specs.Float.Ieee.Fits.{nearest-le, kept-lt}
use Rattle.std.specs.Float.Ieee.Exact.{HasValue}
use Rattle.std.specs.Float.Ieee.Back.{round_whole}
use Rattle.std.specs.Float.Ieee.Nearest.{closest, closest_same, closest_mono, nearest-ge}
use Rattle.std.specs.Float.Ieee.Order.{round_mono}
use Rattle.std.specs.Float.Ieee.Scale.{grid, overflow, grid_scale, round_val, round_same}
use Rattle.arith.specs.Whole.Values.{same-value}
use Rattle.arith.specs.Whole.{float_of, dropped_of, kept_of, rounded_of}

-- ---- digits
pub size_gt : (n j : ℕ) → 2 ^ j ≤ n → j < size n
size_gt n j h = lt_of_not-le (λ (g : size n ≤ j). not-le_of_lt (lt_of_lt_of_le (size-lt n) (pow_mono g)) h)

pub size_mono : (n p : ℕ) → n ≤ p → size n ≤ size p
size_mono n p h = size-le n (size p) (lt_of_le_of_lt h (size-lt p))

-- Rust's `leading_zeros` counts the other digits
pub leading-size : (n : ℕ) → n < 2 ^ 64 → count_leading_zeros 64 n + size n ≡ 64
leading-size n h =
    let l = leading_length 64 n h in
    omega (arith, l.1, size-le n l.0 l.2, reached l.0 l.3)
  where
    reached : (m : ℕ) → 2 ^ m ≤ 2 * n + 1 → m ≤ size n
    reached zero g = zero-le
    reached (suc j) g = size_gt n j (omega (arith, pow-succ' 2 j))

pub kept-le : (n : ℕ) → kept_of n ≤ 2 ^ 53
kept-le n = let d = dropped_of n in le_trans (nearest-le (n / 2 ^ d) (compare (n % 2 ^ d * 2) (2 ^ d))) (kept-lt 53 n)

-- where digits are dropped, 53 are kept
pub kept_ge : (n : ℕ) → 0 < dropped_of n → 2 ^ 52 ≤ kept_of n
kept_ge n h =
    let d = dropped_of n in
    let reached : 2 ^ (52 + d) ≤ n = size_reaches n (52 + d) (omega arith) in
    le_trans ((le-div_iff_mul-le (pow_pos d)).1 (le_trans (le_of_eq (sym (pow-add 2 52 d))) reached)) (nearest-ge (n / 2 ^ d) (compare (n % 2 ^ d * 2) (2 ^ d)))

-- ---- the rounded number
pub rounded_exact : (n : ℕ) → n ≤ 2 ^ 53 → rounded_of n ≡ n
unfolding rounded_of
rounded_exact n h = elim (eq-or-lt_of_le h) [
  | inl e ↦ rw e (unfold size in refl)
  | inr l ↦
      let none : dropped_of n ≡ 0 = omega (arith, size-le n 53 l) in
      rw (none, div-one n, mod-one n, mul-one n)
]

-- a long one has 53 digits and those that are dropped
long : (n : ℕ) → (n ≤ 2 ^ 53 → ⊥) → (0 < dropped_of n) × (size n ≡ 53 + dropped_of n)
long n g = let l = size_gt n 53 (le_of_lt (lt_of_not-le g)) in (omega arith, omega arith)

-- one that is odd has 53 digits at most
pub rounded_odd : (n : ℕ) → rounded_of n % 2 ≡ 1 → rounded_of n ≤ 2 ^ 53
unfolding rounded_of
rounded_odd n o = elim (dec_le n (2 ^ 53)) [
  | yes l ↦ omega (arith, rounded_exact n l)
  | no g ↦ even (kept_of n) (dropped_of n) (long n g).0 o
]
  where
    even : (q d : ℕ) → 0 < d → q * 2 ^ d % 2 ≡ 1 → q * 2 ^ d ≤ 2 ^ 53
    even q zero p o = absurd (omega arith)
    even q (suc d) p o = omega (arith, ap (λ (x : ℕ). q * x) (pow-succ' 2 d))

pub rounded_width : (w n : ℕ) → n < 2 ^ w → rounded_of n ≤ 2 ^ w
unfolding rounded_of
rounded_width w n h = elim (dec_le n (2 ^ 53)) [
  | yes l ↦ le_trans (le_of_eq (rounded_exact n l)) (le_of_lt h)
  | no g ↦
      let room : 53 + dropped_of n ≤ w = omega (arith, (long n g).1, size-le n w h) in
      le_trans (mul-le-mul_right (2 ^ dropped_of n) (kept-le n)) (le_trans (le_of_eq (sym (pow-add 2 53 (dropped_of n)))) (pow_mono room))
]

pub rounded_le : (n : ℕ) → n < 2 ^ 64 → rounded_of n ≤ 2 ^ 64
rounded_le = rounded_width 64

-- it is off by one part in 2^52 at most
pub rounded_close : (n : ℕ) → (2 ^ 52 * rounded_of n ≤ 2 ^ 52 * n + n) × (2 ^ 52 * n ≤ 2 ^ 52 * rounded_of n + n)
unfolding rounded_of
rounded_close n = elim (dec_le n (2 ^ 53)) [
  | yes l ↦ let e = rounded_exact n l in (omega arith, omega arith)
  | no g ↦
      let d = dropped_of n in
      let u = 2 ^ d in
      let o = compare (n % u * 2) u in
      let unit : 2 ^ 52 * u ≤ n = le_trans (le_of_eq (sym (pow-add 2 52 d))) (size_reaches n (52 + d) (omega (arith, long n g))) in
      let low = mul-le-mul_right u (nearest-ge (n / u) o) in
      let high = mul-le-mul_right u (nearest-le (n / u) o) in
      (omega (arith, div-add-mod' n u), omega (arith, div-add-mod' n u, mod-lt n (pow_pos d)))
]

-- two that drop as many digits are in the order of what they keep; else 2^53 units of the smaller lie between them
pub rounded_mono : (n p : ℕ) → n ≤ p → rounded_of n ≤ rounded_of p
unfolding rounded_of
rounded_mono n p h =
    let j = dropped_of n in
    let k = dropped_of p in
    let few : j ≤ k = omega (arith, size_mono n p h) in
    elim (eq-or-lt_of_le few) [
      | inl e ↦ subst (λ (i : ℕ). closest n (2 ^ i) * 2 ^ i ≤ rounded_of p) (sym e) (mul-le-mul_right (2 ^ k) (closest_mono n (2 ^ k) p (2 ^ k) (pow_pos k) (pow_pos k) (mul-le-mul_right (2 ^ k) h)))
      | inr l ↦
          let room : 53 + j ≤ 52 + k = omega arith in
          le_trans (mul-le-mul_right (2 ^ j) (kept-le n))
          (le_trans (le_of_eq (sym (pow-add 2 53 j)))
          (le_trans (pow_mono room)
          (le_trans (le_of_eq (pow-add 2 52 k)) (mul-le-mul_right (2 ^ k) (kept_ge p (omega arith))))))
    ]

-- 2^k - 1 is rounded to 2^k where it has digits to drop: by half a unit, a tie to the even one, or by less
ones : (k : ℕ) → 2 ^ k ≤ rounded_of (2 ^ k - 1) + 1
unfolding rounded_of
ones k = elim (dec_le (2 ^ k - 1) (2 ^ 53)) [
  | yes l ↦ omega (arith, rounded_exact (2 ^ k - 1) l)
  | no g ↦
      let n = 2 ^ k - 1 in
      let d = dropped_of n in
      let all : size n ≡ 53 + d = (long n g).1 in
      let split : 2 ^ (53 + d) ≡ 2 ^ 53 * 2 ^ d = pow-add 2 53 d in
      let least : 2 ^ (53 + d) ≤ 2 ^ k = pow_mono (omega (arith, size-le n k (omega (arith, pow_pos k)))) in
      let two : 2 ^ 1 ≤ 2 ^ d = pow_mono (long n g).0 in
      let up : 2 ^ 53 ≤ kept_of n = closest_mono (2 ^ 54 - 1) 2 n (2 ^ d) (lit< tt) (pow_pos d) (omega arith) in
      omega (arith, mul-le-mul_right (2 ^ d) up, rw all at (size-lt n))
]

-- a power of two that n + 1 reaches, it reaches too
pub rounded_reaches : (k n : ℕ) → 2 ^ k ≤ n + 1 → 2 ^ k ≤ rounded_of n + 1
rounded_reaches k n h = omega (arith, ones k, rounded_mono (2 ^ k - 1) n (omega arith))

pub rounded_pos : (n : ℕ) → 0 < n → 0 < rounded_of n
rounded_pos n h = rw (rounded_exact 1 (lit≤ tt)) at (rounded_mono 1 n h)

-- ---- the float's value
pub float_exact : (n : ℕ) → n ≤ 2 ^ 53 → HasValue (float_of n) false n 1
unfolding of_int
float_exact n h = round_whole binary64 false n h

-- a whole number with all the digits that a format keeps: `round` at n * 2^low units, over as many
module _ (f : Format) (n : ℕ) (long : prec f ≤ size n) where
  whole-grid : grid f (n * 2 ^ low f) (2 ^ low f) ≡ closest n (2 ^ (size n - prec f)) * 2 ^ (size n - prec f) * 2 ^ low f
  whole-grid =
      let u = 2 ^ low f in
      let k = size n - prec f in
      let back : n * u / u ≡ n = mul-div_cancel n (pow_pos (low f)) in
      grid_scale f n u (low f) (pow_pos (low f)) (rw back long)
      ∙ ap (λ (z : ℕ). closest (n * u) (u * 2 ^ (size z - prec f)) * 2 ^ (size z - prec f) * u) back
      ∙ ap (λ (z : ℕ). z * 2 ^ k * u) (closest_same (n * u) (u * 2 ^ k) n (2 ^ k) (mul-pos (pow_pos (low f)) (pow_pos k)) (pow_pos k) (mul_assoc n u (2 ^ k)))

  whole-value : (w : ℕ) → closest n (2 ^ (size n - prec f)) * 2 ^ (size n - prec f) ≡ w → w * 2 ^ low f < overflow f → HasValue (round f false n 1) false w 1
  whole-value w e under =
      let u = 2 ^ low f in
      let is : grid f (n * u) u ≡ w * u = whole-grid ∙ ap (λ (z : ℕ). z * u) e in
      same-value (round f false n 1) false (w * u) u w 1 (pow_pos (low f)) (mul-one (w * u))
      (rw (round_same f false n 1 (n * u) u (pow_pos 0) (pow_pos (low f)) (sym (mul-one (n * u)))) (rw is at (round_val f (n * u) u (rw is under))))

pub rounded_value : (n : ℕ) → n < 2 ^ 64 → HasValue (float_of n) false (rounded_of n) 1
unfolding of_int rounded_of
rounded_value n h = elim (dec_le n (2 ^ 53)) [
  | yes l ↦ subst (λ (z : ℕ). HasValue (float_of n) false z 1) (sym (rounded_exact n l)) (float_exact n l)
  | no g ↦ whole-value binary64 n (le_of_lt (size_gt n 53 (le_of_lt (lt_of_not-le g)))) (rounded_of n) refl (lt_of_le_of_lt (mul-le-mul_right (2 ^ 1074) (rounded_le n h)) (lit< tt))
]

pub float_mono : (n p : ℕ) → n ≤ p → T (le (float_of n) (float_of p))
unfolding of_int
float_mono n p h = round_mono binary64 n 1 p 1 (pow_pos 0) (pow_pos 0) (mul-le-mul_right 1 h)
