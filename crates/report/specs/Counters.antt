-- The reporting counters. Definitions only.
use Rattle.std.specs.Prelude.{ℕ, ◌+◌, max, ◌||◌, List, [], ◌∷◌, Float}
use Rattle.std.specs.Float.{binary64}
use Rattle.std.specs.Float.Ieee.{add, sub, div}
use Rattle.arith.specs.Floats.{absolute_of}
use Rattle.arith.specs.Whole.{float_of}
use Rattle.counts.specs.Counts.{large, saturating_add}
use Rattle.refusals.specs.Refusals.{Check, ◌gives◌, first_fault, too_large, counter_full}
use Rattle.state.specs.declared.GovernorState.{GovernorState}
use Rattle.state.specs.declared.Counters.{Counters}
use Rattle.kinds.specs.declared.kind.CandidateKind.{CandidateKind}
use Rattle.kinds.specs.declared.kind.CandidateKind.TheVariants.{L0, LevelBatch, TrivialMove}
use Rattle.state.specs.State.{Observed, full, answered}

abbrev pub counted_in : GovernorState → Counters → GovernorState
counted_in s c =
    record { mode = s.mode; signals = s.signals; focus = s.focus; streaks = s.streaks; times = s.times; window = s.window; counters = c }

-- a level batch that was chosen is counted, with its length
unfoldable pub chosen_of : GovernorState → CandidateKind → GovernorState
chosen_of s L0 = s
chosen_of s (TrivialMove level) = s
chosen_of s (LevelBatch level n) =
    counted_in s
    (record {
      mode_switches = s.counters.mode_switches;
      batch_size_sum = saturating_add s.counters.batch_size_sum n;
      batch_size_count = saturating_add s.counters.batch_size_count 1;
      trivial_moves_performed = s.counters.trivial_moves_performed;
      trivial_move_bytes_avoided = s.counters.trivial_move_bytes_avoided;
      predicted_actual_abs_pct_error_sum = s.counters.predicted_actual_abs_pct_error_sum;
      predicted_actual_samples = s.counters.predicted_actual_samples;
    })

-- 3
abbrev pub move_checks : GovernorState → List Check
move_checks s = full s.counters.trivial_moves_performed gives counter_full ∷ []

abbrev pub move_fault : GovernorState → ℕ
move_fault s = first_fault (move_checks s)

unfoldable pub trivial_move_of : GovernorState → ℕ → Observed
trivial_move_of s bytes =
    answered (move_fault s) s
    (counted_in s
    (record {
      mode_switches = s.counters.mode_switches;
      batch_size_sum = s.counters.batch_size_sum;
      batch_size_count = s.counters.batch_size_count;
      trivial_moves_performed = s.counters.trivial_moves_performed + 1;
      trivial_move_bytes_avoided = saturating_add s.counters.trivial_move_bytes_avoided bytes;
      predicted_actual_abs_pct_error_sum = s.counters.predicted_actual_abs_pct_error_sum;
      predicted_actual_samples = s.counters.predicted_actual_samples;
    }))

-- the distance of actual from predicted, over the predicted size or 1
abbrev pub error_of : ℕ → ℕ → Float
error_of predicted actual = div binary64 (absolute_of (sub binary64 (float_of actual) (float_of predicted))) (float_of (max predicted 1))

-- 2, 3
abbrev pub outcome_checks : GovernorState → ℕ → ℕ → List Check
outcome_checks s predicted actual =
    (large predicted || large actual) gives too_large ∷ full s.counters.predicted_actual_samples gives counter_full ∷ []

abbrev pub outcome_fault : GovernorState → ℕ → ℕ → ℕ
outcome_fault s predicted actual = first_fault (outcome_checks s predicted actual)

unfoldable pub outcome_of : GovernorState → ℕ → ℕ → Observed
outcome_of s predicted actual =
    answered (outcome_fault s predicted actual) s
    (counted_in s
    (record {
      mode_switches = s.counters.mode_switches;
      batch_size_sum = s.counters.batch_size_sum;
      batch_size_count = s.counters.batch_size_count;
      trivial_moves_performed = s.counters.trivial_moves_performed;
      trivial_move_bytes_avoided = s.counters.trivial_move_bytes_avoided;
      predicted_actual_abs_pct_error_sum = add binary64 s.counters.predicted_actual_abs_pct_error_sum (error_of predicted actual);
      predicted_actual_samples = s.counters.predicted_actual_samples + 1;
    }))
