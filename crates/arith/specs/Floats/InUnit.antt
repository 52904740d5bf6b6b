-- Floats from 0 to 1.
use Rattle.std.specs.Prelude.{◌≡◌, true, false, T, refl, Float}
use Rattle.std.proofs.Common.{arith, lit<, lit≤}
use Rattle.std.specs.Float.{nan, inf, fin, binary64}
use Rattle.std.specs.Float.Ieee.{up, add, mul, lt, le, is_nan, of_bits}
use Rattle.std.specs.Float.Ieee.Fits.{up_pos}
use Rattle.std.specs.Float.Ieee.Scale.{finite}
use Rattle.arith.specs.Floats.{f0, f1, minimum_of}
use Rattle.arith.specs.Floats.Order.{sides, le_trans}
use Rattle.arith.specs.Floats.Range.{Small, first-zero, small_finite, small_least, mul_small, add_small}
use Rattle.arith.specs.Floats.Monotone.{mul_mono, add_mono}
use Rattle.arith.specs.Floats.Extremes.{minimum_least, minimum_most}

-- -0 is among them, a NaN is not
abbrev pub InUnit : Float → Type 0
InUnit x = T (le f0 x) × T (le x f1)

pub unit_small : (x : Float) → InUnit x → Small 1 x
unfolding le of_bits
unit_small nan h = absurd h.0
unit_small (inf true) h = absurd h.0
unit_small (inf false) h = absurd h.1
unit_small (fin false m e) h = omega (arith, sides (fin false m e) f1 tt tt h.1)
unit_small (fin true m e) h = first-zero m (up e) 1 (up_pos e) (lit< tt) (omega (arith, sides f0 (fin true m e) tt tt h.0))

pub unit_finite : (x : Float) → InUnit x → T (finite x)
unit_finite x h = small_finite 1 x (unit_small x h)

-- what is no number below 0, with minimum 1.0
pub minimum_unit : (x : Float) → lt x f0 ≡ false → InUnit (minimum_of x f1)
unfolding is_nan of_bits
minimum_unit x h = (minimum_least f0 x f1 h (unfold le in tt), minimum_most x f1 refl)

-- ---- the mean of two with weights

one : InUnit f1
unfolding le of_bits
one = (tt, tt)

module _ (w : Float) (W : InUnit w) where
  times_small : (x : Float) → InUnit x → Small 1 (mul binary64 w x)
  times_small x h = mul_small 1 1 w x (lit≤ tt) (unit_small w W) (unit_small x h)

  times_finite : (x : Float) → InUnit x → T (finite (mul binary64 w x))
  times_finite x h = small_finite 1 (mul binary64 w x) (times_small x h)

  times_most : (x : Float) → InUnit x → T (le (mul binary64 w x) (mul binary64 w f1))
  times_most x h = mul_mono binary64 w x f1 (unit_finite w W) (unit_finite x h) (unit_finite f1 one) W.0 h.1

module _ (w v : Float) (W : InUnit w) (U : InUnit v) where
  abbrev mean : Float → Float → Float
  mean x y = add binary64 (mul binary64 w x) (mul binary64 v y)

  pub mean_unit : T (le (mean f1 f1) f1) → (x y : Float) → InUnit x → InUnit y → InUnit (mean x y)
  mean_unit whole x y p q = (
    small_least 2 (mean x y) (add_small 1 1 _ _ (lit≤ tt) (times_small w W x p) (times_small v U y q)),
    le_trans (mean x y) (mean f1 f1) f1 (add_mono binary64 _ _ _ _ (times_finite w W x p) (times_finite w W f1 one) (times_finite v U y q) (times_finite v U f1 one) (times_most w W x p) (times_most v U y q)) whole,
  )
