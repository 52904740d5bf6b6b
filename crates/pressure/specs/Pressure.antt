-- The components of pressure, and the signals after one observation. Definitions only.
pub mod Range
use Rattle.std.specs.Prelude.{Float}
use Rattle.std.specs.Float.{binary64}
use Rattle.std.specs.Float.Ieee.{of_bits, add, sub, mul, div}
use Rattle.arith.specs.Whole.{float_of}
use Rattle.arith.specs.Floats.{minimum_of, maximum_of, clamp_of, f1}
use Rattle.state.specs.declared.Signals.{Signals}
use Rattle.pressure.specs.declared.PressureSample.{PressureSample}
use Rattle.pressure.specs.declared.Components.{Components}
use Rattle.kinds.specs.Tuning.{Tuning}
use Rattle.pressure.specs.Sample.{fraction_of}
use Rattle.pressure.specs.Smoothing.{smoothed_of}

-- 0.3 and 3.0
abbrev pub readamp_weight : Float
readamp_weight = of_bits binary64 0x3fd3333333333333

abbrev pub backlog_normalization : Float
backlog_normalization = of_bits binary64 0x4008000000000000

-- a share of a limit, with minimum 1.0
abbrev pub share_of : Float → Float → Float
share_of x limit = minimum_of (div binary64 x limit) f1

-- the L0 fraction is given, and the smoothed probe count: it is the new one
unfoldable pub components_of : Tuning → PressureSample → Float → Float → Components
components_of G p fraction probed =
    record {
      l0 = share_of fraction G.enter_fraction;
      debt = share_of p.max_level_debt_ratio G.enter_ratio;
      backlog = share_of (float_of p.backlog_levels) backlog_normalization;
      read = share_of probed G.enter_probed;
    }

-- structural times (1.0 - 0.3) plus read times 0.3
unfoldable pub instant_of : Components → Float
instant_of c =
    add binary64 (mul binary64 (maximum_of (maximum_of c.l0 c.debt) c.backlog) (sub binary64 f1 readamp_weight)) (mul binary64 c.read readamp_weight)

-- the signals from the components, the new smoothed probe count beside them
unfoldable pub blended_of : Signals → Float → Components → Signals
blended_of g probed c =
    record {
      tables_probed_ewma = probed;
      pressure_ewma = smoothed_of g.pressure_ewma (instant_of c);
      last_pressure = clamp_of (maximum_of (smoothed_of g.pressure_ewma (instant_of c)) c.l0);
      debt_ewma = smoothed_of g.debt_ewma (maximum_of c.debt c.backlog);
      pressure_vector =
          record { l0 = c.l0; deep_debt = smoothed_of g.debt_ewma (maximum_of c.debt c.backlog); read = c.read };
    }

abbrev pub probed_of : Signals → PressureSample → Float
probed_of g p = smoothed_of g.tables_probed_ewma p.tables_probed_per_get

unfoldable pub signals_of : Tuning → Signals → PressureSample → Signals
signals_of G g p = blended_of g (probed_of g p) (components_of G p (fraction_of p) (probed_of g p))
