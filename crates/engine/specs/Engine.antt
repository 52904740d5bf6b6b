-- The observation of the running engine: a window over its read counters since the last one. Definitions only.
pub mod WindowFault
use Rattle.std.specs.Prelude.{ℕ, ◌-◌, ◌^◌, cond, not, ◌||◌, List, [], ◌∷◌, ltb, Float}
use Rattle.std.specs.Float.{binary64}
use Rattle.std.specs.Float.Ieee.{div}
use Rattle.arith.specs.Whole.{float_of}
use Rattle.counts.specs.Counts.{any_large}
use Rattle.refusals.specs.Refusals.{Check, ◌gives◌, first_fault, bad_state, too_large, counter_full}
use Rattle.state.specs.declared.GovernorState.{GovernorState}
use Rattle.state.specs.declared.Window.{Window}
use Rattle.pressure.specs.declared.PressureSample.{PressureSample}
use Rattle.windows.specs.declared.ReadAmpStats.{ReadAmpStats}
use Rattle.windows.specs.declared.EngineSample.{EngineSample}
use Rattle.windows.specs.Windows.{probed_sum, resolved_sum, probed_since, resolved_since, deltas_large}
use Rattle.kinds.specs.Tuning.{Tuning}
use Rattle.sound.specs.Sound.{sound_of}
use Rattle.governor.specs.Observe.{counters_full, accepted_of}
use Rattle.state.specs.State.{Observed, answered}

-- with no resolved gets the old smoothed value is fed in again
unfoldable pub per_get : Window → Float → ReadAmpStats → Float
per_get w tables_probed_ewma a =
    cond (ltb 0 (resolved_since w a)) (div binary64 (float_of (probed_since w a)) (float_of (resolved_since w a))) tables_probed_ewma

abbrev pub sample_with : EngineSample → Float → PressureSample
sample_with e probed =
    record {
      l0_count = e.l0_count;
      l0_write_stall_trigger = e.l0_write_stall_trigger;
      max_level_debt_ratio = e.max_level_debt_ratio;
      tables_probed_per_get = probed;
      backlog_levels = e.backlog_levels;
    }

abbrev pub sample_of : GovernorState → EngineSample → ReadAmpStats → PressureSample
sample_of s e a = sample_with e (per_get s.window s.signals.tables_probed_ewma a)

-- 1, 2, 3
abbrev pub engine_checks : Tuning → GovernorState → ℕ → EngineSample → ReadAmpStats → List Check
engine_checks G s now e a =
    not (sound_of G s.mode s.streaks) gives bad_state
    ∷ (any_large e.l0_count e.l0_write_stall_trigger e.backlog_levels || deltas_large s.window a) gives too_large
    ∷ (ltb (2 ^ 64 - 1) (probed_sum a) || counters_full G s now (sample_of s e a)) gives counter_full
    ∷ []

unfoldable pub engine_fault : Tuning → GovernorState → ℕ → EngineSample → ReadAmpStats → ℕ
engine_fault G s now e a = first_fault (engine_checks G s now e a)

-- both sums are kept, also where no get resolved
abbrev pub window_of : ReadAmpStats → Window
window_of a = record { last_probed = probed_sum a; last_resolved = resolved_sum a }

unfoldable pub engine_of : Tuning → GovernorState → ℕ → EngineSample → ReadAmpStats → Observed
engine_of G s now e a = answered (engine_fault G s now e a) s (accepted_of G s (window_of a) now (sample_of s e a))
