-- A fresh state, and a state with another focus; a counter that cannot go up, and what a call that may be refused answers. Definitions only.
pub mod Answered
use Rattle.std.specs.Prelude.{ℕ, ◌+◌, ◌-◌, ◌^◌, Bool, cond, ltb, eqb, None}
use Rattle.refusals.specs.Refusals.{none}
use Rattle.state.specs.declared.GovernorState.{GovernorState}
use Rattle.kinds.specs.declared.mode.GovernorMode.TheVariants.{Balanced}
use Rattle.kinds.specs.declared.focus.FocusState.{FocusState}
use Rattle.arith.specs.Floats.{f0}

-- what a call that may be refused answers: its number, and the state after it, which is the old one where it is refused
pub record Observed : Type 0 where
  pub refusal : ℕ
  pub state : GovernorState

-- a counter that cannot go up
abbrev pub full : ℕ → Bool
full n = ltb (2 ^ 64 - 1) (n + 1)

abbrev pub answered : ℕ → GovernorState → GovernorState → Observed
answered fault old new = record { refusal = fault; state = cond (eqb fault none) new old }

abbrev pub fresh_of : ℕ → GovernorState
fresh_of clock =
    record {
      mode = Balanced;
      signals =
          record {
            tables_probed_ewma = f0;
            pressure_ewma = f0;
            last_pressure = f0;
            debt_ewma = f0;
            pressure_vector = record { l0 = f0; deep_debt = f0; read = f0 };
          };
      focus = record { current_focus = None; streak = 0 };
      streaks = record { enter_read_protect = 0; exit_read_protect = 0; exit_emergency = 0 };
      times = record { balanced = 0; read_protect = 0; write_emergency = 0; last_transition = clock };
      window = record { last_probed = 0; last_resolved = 0 };
      counters =
          record {
            mode_switches = 0;
            batch_size_sum = 0;
            batch_size_count = 0;
            trivial_moves_performed = 0;
            trivial_move_bytes_avoided = 0;
            predicted_actual_abs_pct_error_sum = f0;
            predicted_actual_samples = 0;
          };
    }

abbrev pub focused_of : GovernorState → FocusState → GovernorState
focused_of s f =
    record { mode = s.mode; signals = s.signals; focus = f; streaks = s.streaks; times = s.times; window = s.window; counters = s.counters }
