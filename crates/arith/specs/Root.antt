-- The root of a u64, of its value as a binary64: the nearest binary64, by whole numbers. Definitions only.
pub mod Squares
pub mod Nearest
use Rattle.std.specs.Prelude.{ℕ, zero, suc, ◌+◌, ◌-◌, ◌*◌, ◌/◌, ◌^◌, false, cond, nat_le, nat_lt, Float}
use Rattle.std.specs.Float.{binary64}
use Rattle.std.specs.Float.Ieee.{round, size}
use Rattle.arith.specs.Whole.{rounded_of}

-- a digit more: of 4 x + .. from the root r of x
unfoldable pub with_digit : ℕ → ℕ → ℕ
with_digit r n = cond (nat_le ((2 * r + 1) * (2 * r + 1)) n) (2 * r + 1) (2 * r)

-- the root of an n below 4^k, rounded down, by its k binary digits
unfoldable pub floor_root : ℕ → ℕ → ℕ
unfolding with_digit
floor_root zero n = 0
floor_root (suc k) n = with_digit (floor_root k (n / 4)) n

-- the root of x is nearer to r + 1 than to r, its whole part, where the rest is above r
unfoldable pub nearest_root : ℕ → ℕ → ℕ
nearest_root x r = cond (nat_lt r (x - r * r)) (r + 1) r

-- how many binary places the root of v has after the point, so that it has 53 digits in all
unfoldable pub root_shift : ℕ → ℕ
unfolding size
root_shift v = 52 - (size v - 1) / 2

unfoldable pub root_digits : ℕ → ℕ
unfolding floor_root nearest_root root_shift
root_digits v = let x = v * 4 ^ root_shift v in nearest_root x (floor_root 53 x)

unfoldable pub root_of : ℕ → Float
unfolding root_digits root_shift rounded_of round
root_of n = let v = rounded_of n in round binary64 false (root_digits v) (2 ^ root_shift v)
