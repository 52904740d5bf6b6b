-- The moving average: 0.3 times the new value plus (1.0 - 0.3) times the old, in that order. Definitions only.
pub mod Range
use Rattle.std.specs.Prelude.{Float}
use Rattle.std.specs.Float.{binary64}
use Rattle.std.specs.Float.Ieee.{of_bits, add, sub, mul}
use Rattle.arith.specs.Floats.{f1}

-- 0.3
abbrev pub ewma_alpha : Float
ewma_alpha = of_bits binary64 0x3fd3333333333333

unfoldable pub smoothed_of : Float → Float → Float
smoothed_of old new = add binary64 (mul binary64 ewma_alpha new) (mul binary64 (sub binary64 f1 ewma_alpha) old)
