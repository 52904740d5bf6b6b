-- Minimum, maximum, absolute value and the clamp to 0..1, as Rust's `f64` has them. Definitions only.
pub mod Nan
pub mod Absolute
pub mod Order
pub mod Clamp
pub mod Extremes
pub mod Sign
pub mod Commute
pub mod Range
pub mod NotBelow
pub mod Rounds
pub mod Monotone
pub mod InUnit
use Rattle.std.specs.Prelude.{false, cond, from_bits, is_nan, Float}
use Rattle.std.specs.Float.{nan, inf, fin, binary64}
use Rattle.std.specs.Float.Ieee.{lt}

abbrev pub f0 : Float
f0 = from_bits binary64 0x0000000000000000

abbrev pub f1 : Float
f1 = from_bits binary64 0x3ff0000000000000

-- the other operand where one is a NaN, the left one where both are or where they are equal
unfoldable pub minimum_of : Float → Float → Float
minimum_of a b = cond (is_nan a) b (cond (lt b a) b a)

unfoldable pub maximum_of : Float → Float → Float
maximum_of a b = cond (is_nan a) b (cond (lt a b) b a)

unfoldable pub absolute_of : Float → Float
absolute_of nan = nan
absolute_of (inf s) = inf false
absolute_of (fin s m e) = fin false m e

-- to 0..1: a NaN and -0 stay as they are
unfoldable pub clamp_of : Float → Float
clamp_of x = cond (lt x f0) f0 (cond (lt f1 x) f1 x)
