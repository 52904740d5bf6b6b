-- Bounds of the minimum and of the maximum, NaNs among their operands.
use Rattle.std.specs.Prelude.{◌≡◌, Bool, true, false, T, ◌⊎◌, is_nan, refl, Float}
use Rattle.std.proofs.Common.{inl, inr}
use Rattle.std.specs.Float.Ieee.{lt, le}
use Rattle.arith.specs.Floats.{minimum_of, maximum_of}
use Rattle.arith.specs.Floats.Nan.{nan_is}
use Rattle.arith.specs.Floats.Order.{le_no_nan, le_trans, le_refl, not_lt_le}
use Rattle.arith.specs.Floats.Clamp.{minimum_one_of, minimum_le, minimum_nan, maximum_one_of, le_maximum, maximum_nan}

pub minimum_most : (x y : Float) → is_nan y ≡ false → T (le (minimum_of x y) y)
minimum_most x y q = go (is_nan x) refl
  where
    go : (t : Bool) → is_nan x ≡ t → T (le (minimum_of x y) y)
    go true p = rw (nan_is x p, (minimum_nan y).0) (le_refl y q)
    go false p = (minimum_le x y p q).1

-- a NaN on the left is not below z
pub minimum_least : (z x y : Float) → lt x z ≡ false → T (le z y) → T (le z (minimum_of x y))
minimum_least z x y l h = go (is_nan x) refl (minimum_one_of x y)
  where
    go : (t : Bool) → is_nan x ≡ t → (minimum_of x y ≡ x) ⊎ (minimum_of x y ≡ y) → T (le z (minimum_of x y))
    go true p e = rw (nan_is x p, (minimum_nan y).0) h
    go false p (inl e) = rw e (not_lt_le z x (le_no_nan z y h).0 p l)
    go false p (inr e) = rw e h

pub maximum_most : (z x y : Float) → T (le x z) → T (le y z) → T (le (maximum_of x y) z)
maximum_most z x y h k = elim (maximum_one_of x y) [ inl e ↦ rw e h | inr e ↦ rw e k ]

pub maximum_least : (z x y : Float) → T (le z y) → T (le z (maximum_of x y))
maximum_least z x y h = go (is_nan x) refl
  where
    go : (t : Bool) → is_nan x ≡ t → T (le z (maximum_of x y))
    go true p = rw (nan_is x p, (maximum_nan y).0) h
    go false p = le_trans z y (maximum_of x y) h (le_maximum x y p (le_no_nan z y h).1).1
