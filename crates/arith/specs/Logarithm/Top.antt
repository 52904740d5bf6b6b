-- The rule's definitions, one step each; the largest power of two not above m; m over it, in 54 binary digits; and the steps into a cell.
use Rattle.std.specs.Prelude.{◌≡◌, ℕ, suc, ◌+◌, ◌-◌, ◌*◌, ◌/◌, ◌%◌, ◌^◌, ◌<◌, ◌≤◌, false, slice_index, refl}
use Rattle.std.proofs.Common.{mul-le-mul_left, le-div_iff_mul-le, div-lt_iff_lt-mul, pow_pos, pow_mono}
use Rattle.std.proofs.Math.Nat.{pow-succ'}
use native.Mathlib.Omega.{arith}
use Rattle.std.specs.Float.{binary64}
use Rattle.std.specs.Float.Ieee.{round, size}
use Rattle.std.specs.Float.Ieee.Digits.{size-lt, size-le, size_reaches}
use Rattle.arith.specs.Whole.Rounding.{size_gt, size_mono}
use Rattle.arith.specs.Whole.{rounded_of}
use Rattle.arith.specs.Logarithm.{tab, ln2, cut, rem, rule, top_of, big_of, units_of, ln_of}

pub rule_is : (big k : ℕ) → rule big k ≡ k * ln2 / 4096 + slice_index tab (big / 2 ^ 43 - 1024) + rem (big % 2 ^ 43 / (2 * (big / 2 ^ 43)))
unfolding rule
rule_is big k = refl

pub units_is : (m : ℕ) → units_of m ≡ rule (big_of m) (top_of m)
unfolding units_of
units_is m = refl

pub ln_is : (n : ℕ) → ln_of n ≡ round binary64 false (units_of (rounded_of n + 1)) (2 ^ 44)
unfolding ln_of
ln_is n = refl

pub top_is : (m : ℕ) → 1 ≤ m → (2 ^ top_of m ≤ m) × (m < 2 ^ suc (top_of m))
unfolding top_of
top_is m h =
    let some : 0 < size m = size_gt m 0 h in
    let back : suc (size m - 1) ≡ size m = omega arith in
    (size_reaches m (size m - 1) (omega arith), rw back (size-lt m))

pub top-le : (m d : ℕ) → m < 2 ^ suc d → top_of m ≤ d
unfolding top_of
top-le m d h = omega (arith, size-le m (suc d) h)

pub top-only : (m k : ℕ) → 2 ^ k ≤ m → m < 2 ^ suc k → top_of m ≡ k
unfolding top_of
top-only m k lo hi = omega (arith, size_gt m k lo, size-le m (suc k) hi)

pub top_mono : (m p : ℕ) → m ≤ p → top_of m ≤ top_of p
unfolding top_of
top_mono m p h = omega (arith, size_mono m p h)

pub big_ge : (m : ℕ) → 1 ≤ m → 2 ^ 53 ≤ big_of m
big_ge m h = (le-div_iff_mul-le (pow_pos (top_of m))).1 (omega (arith, (top_is m h).0))

pub big_lt : (m : ℕ) → 1 ≤ m → big_of m < 2 ^ 54
big_lt m h = (div-lt_iff_lt-mul (pow_pos (top_of m))).1 (omega (arith, (top_is m h).1))

-- at a large power of two, and one above it, nothing is left after k ln 2
pub units_power : (m k : ℕ) → 54 ≤ k → 2 ^ k ≤ m → m ≤ 2 ^ k + 1 → units_of m ≡ k * ln2 / 4096
units_power m k h lo hi = rw (units_is m, top, big) (first k)
  where
    wide : 2 ^ 54 ≤ 2 ^ k
    wide = pow_mono h

    top : top_of m ≡ k
    top = top-only m k lo (omega (arith, wide, pow-succ' 2 k))

    big : m * 2 ^ 53 / 2 ^ k ≡ 2 ^ 53
    big = omega (arith, (le-div_iff_mul-le {x = 2 ^ 53} {y = m * 2 ^ 53} (pow_pos k)).1 (omega (arith, wide)), (div-lt_iff_lt-mul {x = m * 2 ^ 53} {y = 2 ^ 53 + 1} (pow_pos k)).1 (omega (arith, wide)))

    first : (k : ℕ) → rule (2 ^ 53) k ≡ k * ln2 / 4096
    first k = unfold rule tab rem cut in omega arith

-- what is left of a cell, over twice its number
pub z-lt : (e p : ℕ) → 1024 ≤ p → e < 2 ^ 43 → e / (2 * p) < 2 ^ 32
z-lt e p hp he = (div-lt_iff_lt-mul {k = 2 * p} {x = e} {y = 2 ^ 32} (omega arith)).1 (omega (arith, mul-le-mul_left (2 ^ 33) hp))
