-- Factors may change places.
use Rattle.std.specs.Prelude.{◌≡◌, ◌*◌, Bool, true, false, refl, Float}
use Rattle.std.proofs.Common.{mul_comm}
use Rattle.std.specs.Float.{nan, inf, fin, Format}
use Rattle.std.specs.Float.Ieee.{up, down, unlike, mul}

pub unlike_turned : (s t : Bool) → unlike s t ≡ unlike t s
unlike_turned false false = refl
unlike_turned false true = refl
unlike_turned true false = refl
unlike_turned true true = refl

pub mul-turned : (f : Format) (x y : Float) → mul f x y ≡ mul f y x
unfolding mul
mul-turned f nan nan = refl
mul-turned f nan (inf t) = refl
mul-turned f nan (fin t n d) = refl
mul-turned f (inf s) nan = refl
mul-turned f (inf s) (inf t) = rw (unlike_turned s t)
mul-turned f (inf s) (fin t n d) = rw (unlike_turned s t)
mul-turned f (fin s m e) nan = refl
mul-turned f (fin s m e) (inf t) = rw (unlike_turned s t)
mul-turned f (fin s m e) (fin t n d) = rw (unlike_turned s t, mul_comm (m * up e) (n * up d), mul_comm (down e) (down d))
