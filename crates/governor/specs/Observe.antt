-- One observation: what refuses it, and the state after it. Definitions only.
pub mod Room
use Rattle.std.specs.Prelude.{ℕ, ◌+◌, ◌-◌, ◌^◌, Bool, cond, not, ◌&&◌, ◌||◌, List, [], ◌∷◌, ltb}
use Rattle.refusals.specs.Refusals.{Check, ◌gives◌, first_fault, bad_state, too_large, counter_full}
use Rattle.state.specs.declared.GovernorState.{GovernorState}
use Rattle.state.specs.declared.Counters.{Counters}
use Rattle.state.specs.declared.Window.{Window}
use Rattle.pressure.specs.declared.PressureSample.{PressureSample}
use Rattle.modes.specs.declared.NextMode.{NextMode}
use Rattle.kinds.specs.Tuning.{Tuning}
use Rattle.pressure.specs.Sample.{fraction_of}
use Rattle.pressure.specs.Pressure.{probed_of, signals_of}
use Rattle.modes.specs.Mode.{next_mode_of}
use Rattle.sound.specs.Sound.{sound_of, differ}
use Rattle.state.specs.Clock.{time_up_to, times_of}
use Rattle.counts.specs.Counts.{any_large}
use Rattle.state.specs.State.{Observed, full, answered}

abbrev pub next_of : Tuning → GovernorState → PressureSample → NextMode
next_of G s p = next_mode_of G s.mode s.streaks (fraction_of p) p.max_level_debt_ratio (probed_of s.signals p)

abbrev pub switches : Tuning → GovernorState → PressureSample → Bool
switches G s p = differ s.mode (next_of G s p).mode

abbrev pub switches_full : Tuning → GovernorState → PressureSample → Bool
switches_full G s p = switches G s p && full s.counters.mode_switches

-- the switches where this call switches, or the old mode's time
unfoldable pub counters_full : Tuning → GovernorState → ℕ → PressureSample → Bool
counters_full G s now p = switches_full G s p || ltb (2 ^ 64 - 1) (time_up_to s.mode s.times now)

-- 1, 2, 3
abbrev pub observe_checks : Tuning → GovernorState → ℕ → PressureSample → List Check
observe_checks G s now p =
    not (sound_of G s.mode s.streaks) gives bad_state
    ∷ any_large p.l0_count p.l0_write_stall_trigger p.backlog_levels gives too_large
    ∷ counters_full G s now p gives counter_full
    ∷ []

unfoldable pub observe_fault : Tuning → GovernorState → ℕ → PressureSample → ℕ
observe_fault G s now p = first_fault (observe_checks G s now p)

abbrev pub switched_count : Bool → Counters → Counters
switched_count b c =
    record {
      mode_switches = cond b (c.mode_switches + 1) c.mode_switches;
      batch_size_sum = c.batch_size_sum;
      batch_size_count = c.batch_size_count;
      trivial_moves_performed = c.trivial_moves_performed;
      trivial_move_bytes_avoided = c.trivial_move_bytes_avoided;
      predicted_actual_abs_pct_error_sum = c.predicted_actual_abs_pct_error_sum;
      predicted_actual_samples = c.predicted_actual_samples;
    }

-- the state after an accepted observation, the window beside it
unfoldable pub accepted_of : Tuning → GovernorState → Window → ℕ → PressureSample → GovernorState
accepted_of G s w now p =
    record {
      mode = (next_of G s p).mode;
      signals = signals_of G s.signals p;
      focus = s.focus;
      streaks = (next_of G s p).streaks;
      times = times_of s.mode s.times now;
      window = w;
      counters = switched_count (switches G s p) s.counters;
    }

unfoldable pub observed_of : Tuning → GovernorState → ℕ → PressureSample → Observed
observed_of G s now p = answered (observe_fault G s now p) s (accepted_of G s s.window now p)
