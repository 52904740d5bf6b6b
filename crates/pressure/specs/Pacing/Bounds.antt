-- A pause lies between 5,000 nanoseconds and its mode's ceiling, whatever the pressure.
use Rattle.std.specs.Prelude.{◌≡◌, ℕ, ◌≤◌, Bool}
use Rattle.std.proofs.Math.Path.{refl}
use Rattle.std.proofs.Math.Bool.{true, false}
use Rattle.std.proofs.Math.Dec.{T}
use Rattle.std.proofs.Common.{lit≤}
use Rattle.std.specs.Float.Ieee.{Float, binary64, of_bits, is_nan, neg, add, sub, mul, le, to_unsigned}
use Rattle.std.specs.Float.{nan}
use Rattle.std.specs.Float.Ieee.Scale.{finite}
use Rattle.arith.specs.Floats.{f0, clamp_of, maximum_of}
use Rattle.arith.specs.Floats.Nan.{nan_is, sub-nan}
use Rattle.arith.specs.Floats.Order.{le_no_nan, le_refl, le_trans}
use Rattle.arith.specs.Floats.Clamp.{clamp_low, clamp_high, clamp_nan, maximum_nan}
use Rattle.arith.specs.Floats.Extremes.{maximum_most, maximum_least}
use Rattle.arith.specs.Floats.Range.{Small, small_finite, small_least, mul_small}
use Rattle.arith.specs.Floats.InUnit.{unit_small}
use Rattle.arith.specs.Floats.Monotone.{sub_mono}
use Rattle.arith.specs.Whole.Truncation.{truncated_mono}
use Rattle.kinds.specs.declared.mode.GovernorMode.{GovernorMode}
use Rattle.kinds.specs.declared.mode.GovernorMode.TheVariants.{Balanced, ReadProtect, WriteEmergency}
use Rattle.pressure.specs.Pacing.{min_delay, ceiling_of, pacing_of}

-- the ceiling in nanoseconds
abbrev pub most : GovernorMode → ℕ
most Balanced = 20000
most ReadProtect = 40000
most WriteEmergency = 20000

pub delay_least : (mode : GovernorMode) (pressure : Float) → 5000 ≤ pacing_of mode pressure
unfolding pacing_of to_unsigned of_bits
delay_least mode x = truncated_mono min_delay _ (maximum_least min_delay _ min_delay (unfold le in tt))

pub delay_nan : (mode : GovernorMode) → pacing_of mode nan ≡ 5000
unfolding pacing_of mul sub add neg to_unsigned of_bits
delay_nan Balanced = rw (clamp_nan, (maximum_nan min_delay).0)
delay_nan ReadProtect = rw (clamp_nan, (maximum_nan min_delay).0)
delay_nan WriteEmergency = rw (clamp_nan, (maximum_nan min_delay).0)

-- a ceiling from 5,000 up, of which 0 taken off is nothing
module _ (ceiling : Float) (C : T (finite ceiling)) (above : T (le min_delay ceiling)) (nothing-off : T (le (sub binary64 ceiling f0) ceiling)) where
  abbrev span : Float
  span = sub binary64 ceiling min_delay

  abbrev left : Float → Float
  left x = maximum_of (sub binary64 ceiling (mul binary64 (clamp_of x) span)) min_delay

  below : Small 35000 span → (x : Float) → T (le (left x) ceiling)
  unfolding mul of_bits
  below S x = go (is_nan x) refl
    where
      go : (t : Bool) → is_nan x ≡ t → T (le (left x) ceiling)
      go true e = rw (nan_is x e, clamp_nan, sub-nan binary64 ceiling, (maximum_nan min_delay).0) above
      go false e =
          let off : Float = mul binary64 (clamp_of x) span in
          let s : Small 35000 off = mul_small 1 35000 (clamp_of x) span (lit≤ tt) (unit_small (clamp_of x) (clamp_low x e, clamp_high x e)) S in
          let less : T (le (sub binary64 ceiling off) (sub binary64 ceiling f0)) = sub_mono binary64 ceiling ceiling off f0 C C (small_finite 35000 off s) tt (le_refl ceiling (le_no_nan min_delay ceiling above).1) (small_least 35000 off s) in
          maximum_most ceiling _ min_delay (le_trans _ _ ceiling less nothing-off) above

  most-left : Small 35000 span → (x : Float) → to_unsigned 64 (left x) ≤ to_unsigned 64 ceiling
  most-left S x = truncated_mono (left x) ceiling (below S x)

pub delay_most : (mode : GovernorMode) (pressure : Float) → pacing_of mode pressure ≤ most mode
unfolding pacing_of le sub to_unsigned of_bits
delay_most Balanced x = most-left (ceiling_of Balanced) tt tt tt (lit≤ tt) x
delay_most ReadProtect x = most-left (ceiling_of ReadProtect) tt tt tt (lit≤ tt) x
delay_most WriteEmergency x = most-left (ceiling_of WriteEmergency) tt tt tt (lit≤ tt) x
