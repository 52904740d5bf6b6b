-- The twelve figures of a snapshot, whole milliseconds in its times. Definitions only.
pub mod Answered
use Rattle.std.specs.Prelude.{ℕ, ◌-◌, ◌/◌, ◌^◌, cond, List, [], ◌∷◌, ltb, eqb, Float}
use Rattle.std.specs.Float.{binary64}
use Rattle.std.specs.Float.Ieee.{to_bits, div}
use Rattle.arith.specs.Whole.{float_of}
use Rattle.counts.specs.Counts.{any_large}
use Rattle.refusals.specs.Refusals.{Check, ◌gives◌, first_fault, none, too_large, counter_full}
use Rattle.kinds.specs.Numbers.{mode_number}
use Rattle.state.specs.declared.GovernorState.{GovernorState}
use Rattle.state.specs.declared.Times.{Times}
use Rattle.snapshot.specs.declared.GovernorStats.{GovernorStats}
use Rattle.arith.specs.Floats.{f0}
use Rattle.state.specs.Clock.{time_up_to, times_of}

-- 2, 3
abbrev pub snapshot_checks : GovernorState → ℕ → List Check
snapshot_checks s now =
    any_large s.counters.batch_size_sum s.counters.batch_size_count s.counters.predicted_actual_samples gives too_large
    ∷ ltb (2 ^ 64 - 1) (time_up_to s.mode s.times now) gives counter_full
    ∷ []

unfoldable pub snapshot_fault : GovernorState → ℕ → ℕ
snapshot_fault s now = first_fault (snapshot_checks s now)

abbrev pub mean_of : Float → ℕ → Float
mean_of sum count = cond (eqb count 0) f0 (div binary64 sum (float_of count))

abbrev pub stats_of : GovernorState → Times → GovernorStats
stats_of s t =
    record {
      mode = s.mode;
      pressure = s.signals.last_pressure;
      pressure_vector = s.signals.pressure_vector;
      mode_switches = s.counters.mode_switches;
      time_balanced_ms = t.balanced / 1000000;
      time_read_protect_ms = t.read_protect / 1000000;
      time_write_emergency_ms = t.write_emergency / 1000000;
      avg_batch_size = mean_of (float_of s.counters.batch_size_sum) s.counters.batch_size_count;
      trivial_moves_performed = s.counters.trivial_moves_performed;
      trivial_move_bytes_avoided = s.counters.trivial_move_bytes_avoided;
      predicted_actual_samples = s.counters.predicted_actual_samples;
      predicted_actual_mean_abs_pct_error = mean_of s.counters.predicted_actual_abs_pct_error_sum s.counters.predicted_actual_samples;
    }

-- the figures, or the refusal's number alone
pub data SnapshotAnswer : Type 0 where
  Stats : GovernorStats → SnapshotAnswer
  Refused : ℕ → SnapshotAnswer

-- the present mode's time is up to the reading, in the answer only
unfoldable pub snapshot_of : GovernorState → ℕ → SnapshotAnswer
snapshot_of s now =
    cond (eqb (snapshot_fault s now) none) (Stats (stats_of s (times_of s.mode s.times now))) (Refused (snapshot_fault s now))

-- the refusal's number, 0 beside figures
abbrev pub snapshot_refusal : SnapshotAnswer → ℕ
snapshot_refusal (Stats t) = none
snapshot_refusal (Refused n) = n

-- its figures in order, floats as bits
abbrev pub figures : GovernorStats → List ℕ
figures t =
    mode_number t.mode
    ∷ to_bits binary64 t.pressure
    ∷ to_bits binary64 t.pressure_vector.l0 ∷ to_bits binary64 t.pressure_vector.deep_debt ∷ to_bits binary64 t.pressure_vector.read
    ∷ t.mode_switches
    ∷ t.time_balanced_ms ∷ t.time_read_protect_ms ∷ t.time_write_emergency_ms
    ∷ to_bits binary64 t.avg_batch_size
    ∷ t.trivial_moves_performed ∷ t.trivial_move_bytes_avoided
    ∷ t.predicted_actual_samples ∷ to_bits binary64 t.predicted_actual_mean_abs_pct_error
    ∷ []

-- 01's numbers of the answer: 0 and the figures, or the refusal alone
abbrev pub snapshot_numbers : SnapshotAnswer → List ℕ
snapshot_numbers (Stats t) = none ∷ figures t
snapshot_numbers (Refused n) = n ∷ []
