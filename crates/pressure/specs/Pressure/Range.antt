-- The signals' ranges after an observation whose probe value is no number below 0: the smoothed probe count is none either, and the debt's average and the vector lie in 0 to 1.
use Rattle.std.specs.Prelude.{◌≡◌, Bool, true, cond, T, ltb, Float}
use Rattle.std.proofs.Math.Path.{refl}
use Rattle.std.proofs.Math.Bool.{false}
use Rattle.std.specs.Float.{binary64}
use Rattle.std.specs.Float.Ieee.{of_bits, div, lt, le, is_nan}
use Rattle.arith.specs.Floats.{f0, f1, maximum_of}
use Rattle.arith.specs.Floats.Sign.{Signed, float_sign}
use Rattle.arith.specs.Floats.NotBelow.{clear_not_below, div_not_below}
use Rattle.arith.specs.Floats.Extremes.{minimum_most, maximum_most, maximum_least}
use Rattle.arith.specs.Floats.InUnit.{InUnit, minimum_unit}
use Rattle.arith.specs.Whole.{float_of}
use Rattle.kinds.specs.Tuning.{Tuning}
use Rattle.state.specs.declared.Signals.{Signals}
use Rattle.pressure.specs.declared.PressureSample.{PressureSample}
use Rattle.pressure.specs.Sample.{fraction_of}
use Rattle.pressure.specs.Smoothing.Range.{smoothed_not_below, smoothed_unit}
use Rattle.pressure.specs.Pressure.{backlog_normalization, share_of, components_of, blended_of, probed_of, signals_of}

pub record Ranged (g : Signals) : Type 0 where
  pub probed : lt g.tables_probed_ewma f0 ≡ false
  pub debt : InUnit g.debt_ewma
  pub l0 : InUnit g.pressure_vector.l0
  pub deep : InUnit g.pressure_vector.deep_debt
  pub read : InUnit g.pressure_vector.read

fraction_not_below : (p : PressureSample) → lt (fraction_of p) f0 ≡ false
unfolding fraction_of
fraction_not_below p = go (ltb 0 p.l0_write_stall_trigger)
  where
    quotient : Float
    quotient = div binary64 (float_of p.l0_count) (float_of p.l0_write_stall_trigger)

    go : (t : Bool) → lt (cond t quotient f0) f0 ≡ false
    go true = div_not_below binary64 _ _ (clear_not_below _ (float_sign p.l0_count)) (float_sign p.l0_write_stall_trigger)
    go false = unfold lt of_bits in refl

-- a share of a limit whose sign is clear
share_unit : (x limit : Float) → lt x f0 ≡ false → Signed false limit → InUnit (share_of x limit)
share_unit x limit h s = minimum_unit _ (div_not_below binary64 x limit h s)

-- any share: a NaN's is 1.0
share_most : (x limit : Float) → T (le (share_of x limit) f1)
share_most x limit = minimum_most _ f1 (unfold is_nan of_bits in refl)

-- the debt's share may be below 0, the backlog's is not
worst_unit : (debt backlog : Float) → T (le debt f1) → InUnit backlog → InUnit (maximum_of debt backlog)
worst_unit debt backlog h b = (maximum_least f0 debt backlog b.0, maximum_most f1 debt backlog h b.1)

module _ (G : Tuning) (fraction : Signed false G.enter_fraction) (probed : Signed false G.enter_probed) where
  pub signals_ranged : (g : Signals) (p : PressureSample) → lt g.tables_probed_ewma f0 ≡ false → InUnit g.debt_ewma → lt p.tables_probed_per_get f0 ≡ false → Ranged (signals_of G g p)
  unfolding signals_of blended_of components_of
  signals_ranged g p old debt new =
      let count : lt (probed_of g p) f0 ≡ false = smoothed_not_below _ _ old new in
      let backlog : InUnit (share_of (float_of p.backlog_levels) backlog_normalization) = share_unit _ _ (clear_not_below _ (float_sign p.backlog_levels)) (unfold of_bits in refl) in
      let deep = smoothed_unit _ _ debt (worst_unit _ _ (share_most p.max_level_debt_ratio G.enter_ratio) backlog) in
      record {
        probed = count;
        debt = deep;
        l0 = share_unit _ _ (fraction_not_below p) fraction;
        deep = deep;
        read = share_unit _ _ count probed;
      }
