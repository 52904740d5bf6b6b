-- The logarithm as a float: it is exactly its units over 2^44, 0 at 0, and never falls.
use Rattle.std.specs.Prelude.{◌≡◌, ℕ, zero, suc, ◌+◌, ◌^◌, ◌<◌, ◌≤◌, false, T, pos, refl}
use Rattle.std.proofs.Common.{mul-le-mul_right, lt_of_le_of_lt, arith, lit<, lit≤, pow_pos}
use Rattle.std.specs.Float.{binary64, fin}
use Rattle.std.specs.Float.Ieee.{le}
use Rattle.std.specs.Float.Ieee.Exact.{HasValue}
use Rattle.std.specs.Float.Ieee.Order.{round_mono}
use Rattle.arith.specs.Whole.{rounded_of}
use Rattle.arith.specs.Whole.Rounding.{rounded_le, rounded_mono}
use Rattle.arith.specs.Whole.Values.{exact}
use Rattle.arith.specs.Logarithm.{units_of, ln_of}
use Rattle.arith.specs.Logarithm.Top.{ln_is}
use Rattle.arith.specs.Logarithm.Mono.{units_mono}

pub units_zero : units_of 1 ≡ 0
unfolding units_of
units_zero = refl

most : (units_of 0 < 2 ^ 53) × (units_of (2 ^ 64 + 1) < 2 ^ 53)
unfolding units_of
most = (lit< tt, lit< tt)

pub units_lt : (m : ℕ) → m ≤ 2 ^ 64 + 1 → units_of m < 2 ^ 53
units_lt zero h = most.0
units_lt (suc m) h = lt_of_le_of_lt (units_mono (suc m) (2 ^ 64 + 1) (omega arith) h) most.1

pub ln_zero : ln_of 0 ≡ fin false 0 (pos 0)
unfolding ln_of
ln_zero = refl

pub ln_value : (n : ℕ) → n < 2 ^ 64 → HasValue (ln_of n) false (units_of (rounded_of n + 1)) (2 ^ 44)
ln_value n h = rw (ln_is n) (exact (units_of (rounded_of n + 1)) 44 (units_lt (rounded_of n + 1) (omega (arith, rounded_le n h))) (lit≤ tt))

pub ln_mono : (n p : ℕ) → n ≤ p → T (le (ln_of n) (ln_of p))
ln_mono n p h =
    rw (ln_is n, ln_is p) (round_mono binary64 (units_of (rounded_of n + 1)) (2 ^ 44) (units_of (rounded_of p + 1)) (2 ^ 44) (pow_pos 44) (pow_pos 44)
    (mul-le-mul_right (2 ^ 44) (units_mono (rounded_of n + 1) (rounded_of p + 1) (omega arith) (omega (arith, rounded_mono n p h)))))
