-- The absolute value is the value with no sign.
use Rattle.std.proofs.Common.{◌≡◌, false, refl}
use Rattle.std.specs.Float.{Float, nan, inf, fin, float_with_sign}
use Rattle.arith.specs.Floats.{absolute_of}

pub without_sign : (x : Float) → float_with_sign false x ≡ absolute_of x
unfolding float_with_sign absolute_of
without_sign nan = refl
without_sign (inf s) = refl
without_sign (fin s m e) = refl
