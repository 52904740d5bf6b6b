-- NaNs: a float differs from itself exactly if it is one, and a difference with one is one.
use Rattle.std.specs.Prelude.{◌≡◌, ◌*◌, true, false, ◌==◌, refl, Float}
use Rattle.std.specs.Float.{nan, inf, fin, Format}
use Rattle.std.specs.Float.Ieee.{is_nan, ne, eq, up, down, sub}
use Rattle.std.proofs.Math.Dec.{eqb_refl}
use Rattle.std.specs.Float.Ieee.Bits.{is_true}

pub differs : (x : Float) → ne x x ≡ is_nan x
unfolding is_nan ne eq
differs nan = refl
differs (inf true) = refl
differs (inf false) = refl
differs (fin true m e) = simp (is_true (m * up e * down e == m * up e * down e) (eqb_refl (m * up e * down e)))
differs (fin false m e) = simp (is_true (m * up e * down e == m * up e * down e) (eqb_refl (m * up e * down e)))

pub nan_is : (x : Float) → is_nan x ≡ true → x ≡ nan
unfolding is_nan
nan_is nan e = refl
nan_is (inf s) e = cc
nan_is (fin s m k) e = cc

pub sub-nan : (f : Format) (x : Float) → sub f x nan ≡ nan
unfolding sub
sub-nan f nan = refl
sub-nan f (inf s) = refl
sub-nan f (fin s m e) = refl
