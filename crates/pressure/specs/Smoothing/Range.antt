-- What the moving average keeps of its two values: no number below 0, and 0 to 1.
use Rattle.std.specs.Prelude.{◌≡◌, refl, false, Float}
use Rattle.std.specs.Float.Ieee.{binary64, of_bits, sub, mul, lt, le}
use Rattle.arith.specs.Floats.{f0, f1}
use Rattle.arith.specs.Floats.NotBelow.{mul_not_below, add_not_below}
use Rattle.arith.specs.Floats.InUnit.{InUnit, mean_unit}
use Rattle.pressure.specs.Smoothing.{ewma_alpha, smoothed_of}

-- 1.0 - 0.3
abbrev rest : Float
rest = sub binary64 f1 ewma_alpha

pub smoothed_not_below : (old new : Float) → lt old f0 ≡ false → lt new f0 ≡ false → lt (smoothed_of old new) f0 ≡ false
unfolding smoothed_of
smoothed_not_below old new p q =
    add_not_below binary64 _ _ (mul_not_below binary64 ewma_alpha new (unfold lt of_bits in refl) q) (mul_not_below binary64 rest old (unfold lt of_bits sub in refl) p)

-- the weights' rounded sum is 1.0
pub smoothed_unit : (old new : Float) → InUnit old → InUnit new → InUnit (smoothed_of old new)
unfolding smoothed_of le of_bits sub mul
smoothed_unit old new p q = mean_unit ewma_alpha rest (tt, tt) (tt, tt) tt new old q p
