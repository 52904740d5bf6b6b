-- A whole number as a binary64, and the rounding in whole numbers: of n the 53 leading digits are kept, to the nearest, a tie to the even one. Definitions only.
pub mod Values
pub mod Rounding
pub mod Truncation
use Rattle.std.specs.Prelude.{ℕ, ◌-◌, ◌*◌, ◌^◌, pos, Float}
use Rattle.std.specs.Float.{binary64}
use Rattle.std.specs.Float.Ieee.{of_int, size}
use Rattle.std.specs.Float.Ieee.Nearest.{closest}

-- Rust's `n as f64`
abbrev pub float_of : ℕ → Float
float_of n = of_int binary64 (pos n)

-- how many digits of n a binary64 has no room for
abbrev pub dropped_of : ℕ → ℕ
dropped_of n = size n - 53

-- the digits that it keeps
abbrev pub kept_of : ℕ → ℕ
kept_of n = closest n (2 ^ dropped_of n)

-- the whole number that `n as f64` is
unfoldable pub rounded_of : ℕ → ℕ
rounded_of n = kept_of n * 2 ^ dropped_of n
