-- A governor's state in 28 words: which words are one, the state in them, its words, and what a call on words answers and leaves. Definitions only.
pub mod Sound
pub mod Back
pub mod Kept
use Rattle.std.specs.Prelude.{◌≡◌, ℕ, ◌+◌, ◌-◌, ◌^◌, ◌≤◌, Bool, cond, ◌&&◌, List, [], ◌∷◌, length, get_or, leb, eqb, Option, Some, None}
use Rattle.std.specs.Float.{binary64}
use Rattle.std.specs.Float.Ieee.{of_bits, to_bits}
use Rattle.refusals.specs.Refusals.{none}
use Rattle.kinds.specs.declared.mode.GovernorMode.{GovernorMode}
use Rattle.kinds.specs.declared.mode.GovernorMode.TheVariants.{Balanced, ReadProtect, WriteEmergency}
use Rattle.kinds.specs.declared.focus.FocusState.{FocusState}
use Rattle.kinds.specs.declared.vector.PressureVector.{PressureVector}
use Rattle.kinds.specs.Numbers.{mode_number, focus_numbers}
use Rattle.state.specs.declared.Signals.{Signals}
use Rattle.state.specs.declared.Streaks.{Streaks}
use Rattle.state.specs.declared.Times.{Times}
use Rattle.state.specs.declared.Counters.{Counters}
use Rattle.state.specs.declared.GovernorState.{GovernorState}
use Rattle.state.specs.State.{Observed, fresh_of}

abbrev pub version : ℕ
version = 1

-- the letters Coinham, and the version
abbrev pub tag : ℕ
tag = 0x436f696e68616d00 + version

-- the boundary's own refusals
abbrev pub not_a_state : ℕ
not_a_state = 100

abbrev pub no_such_case : ℕ
no_such_case = 101

-- ---- which words are a state

-- a word that fits a u32
abbrev pub small : ℕ → Bool
small n = leb n (2 ^ 32 - 1)

-- no focus has no level
unfoldable pub focus_good : ℕ → ℕ → Bool
focus_good flag level = cond (eqb flag 0) (eqb level 0) (eqb flag 1 && small level)

abbrev pub streaks_good : ℕ → ℕ → ℕ → ℕ → Bool
streaks_good a b c d = (small a && small b) && (small c && small d)

unfoldable pub is_state : List ℕ → Bool
is_state ws =
    eqb (length ws) 28
    && (eqb (get_or ws 0 0) tag
    && (leb (get_or ws 1 0) 2
    && (focus_good (get_or ws 9 0) (get_or ws 10 0)
    && streaks_good (get_or ws 11 0) (get_or ws 12 0) (get_or ws 13 0) (get_or ws 14 0))))

-- what reading one asks of the words
pub record Good (ws : List ℕ) : Type 0 where
  pub long : length ws ≡ 28
  pub level : get_or ws 10 0 ≤ 2 ^ 32 - 1
  pub streak : get_or ws 11 0 ≤ 2 ^ 32 - 1
  pub enter : get_or ws 12 0 ≤ 2 ^ 32 - 1
  pub exit : get_or ws 13 0 ≤ 2 ^ 32 - 1
  pub emergency : get_or ws 14 0 ≤ 2 ^ 32 - 1

-- ---- the state in them

unfoldable pub mode_from : ℕ → GovernorMode
mode_from n = cond (eqb n 0) Balanced (cond (eqb n 1) ReadProtect WriteEmergency)

unfoldable pub focus_from : ℕ → ℕ → ℕ → FocusState
focus_from flag level streak = record { current_focus = cond (eqb flag 0) None (Some level); streak = streak }

unfoldable pub vector_in : List ℕ → PressureVector
vector_in ws = record { l0 = of_bits binary64 (get_or ws 6 0); deep_debt = of_bits binary64 (get_or ws 7 0); read = of_bits binary64 (get_or ws 8 0) }

unfoldable pub signals_in : List ℕ → Signals
signals_in ws =
    record {
      tables_probed_ewma = of_bits binary64 (get_or ws 2 0);
      pressure_ewma = of_bits binary64 (get_or ws 3 0);
      last_pressure = of_bits binary64 (get_or ws 4 0);
      debt_ewma = of_bits binary64 (get_or ws 5 0);
      pressure_vector = vector_in ws;
    }

abbrev pub streaks_in : ℕ → ℕ → ℕ → Streaks
streaks_in a b c = record { enter_read_protect = a; exit_read_protect = b; exit_emergency = c }

unfoldable pub times_in : List ℕ → Times
times_in ws = record { balanced = get_or ws 15 0; read_protect = get_or ws 16 0; write_emergency = get_or ws 17 0; last_transition = get_or ws 18 0 }

unfoldable pub counters_in : List ℕ → Counters
counters_in ws =
    record {
      mode_switches = get_or ws 21 0;
      batch_size_sum = get_or ws 22 0;
      batch_size_count = get_or ws 23 0;
      trivial_moves_performed = get_or ws 24 0;
      trivial_move_bytes_avoided = get_or ws 25 0;
      predicted_actual_abs_pct_error_sum = of_bits binary64 (get_or ws 26 0);
      predicted_actual_samples = get_or ws 27 0;
    }

unfoldable pub state_from : List ℕ → GovernorState
state_from ws =
    record {
      mode = mode_from (get_or ws 1 0);
      signals = signals_in ws;
      focus = focus_from (get_or ws 9 0) (get_or ws 10 0) (get_or ws 11 0);
      streaks = streaks_in (get_or ws 12 0) (get_or ws 13 0) (get_or ws 14 0);
      times = times_in ws;
      window = record { last_probed = get_or ws 19 0; last_resolved = get_or ws 20 0 };
      counters = counters_in ws;
    }

-- words that are none are read as a fresh governor, of which nobody hears
unfoldable pub state_in : List ℕ → GovernorState
state_in ws = cond (is_state ws) (state_from ws) (fresh_of 0)

-- ---- its words

abbrev pub focus_flag : Option ℕ → ℕ
focus_flag f = get_or (focus_numbers f) 0 0

abbrev pub focus_level : Option ℕ → ℕ
focus_level f = get_or (focus_numbers f) 1 0

-- the level's two, and the streak
abbrev pub focus_words : FocusState → List ℕ
focus_words f = focus_flag f.current_focus ∷ focus_level f.current_focus ∷ f.streak ∷ []

unfoldable pub state_words : GovernorState → List ℕ
state_words s =
    tag
    ∷ mode_number s.mode
    ∷ to_bits binary64 s.signals.tables_probed_ewma ∷ to_bits binary64 s.signals.pressure_ewma
    ∷ to_bits binary64 s.signals.last_pressure ∷ to_bits binary64 s.signals.debt_ewma
    ∷ to_bits binary64 s.signals.pressure_vector.l0 ∷ to_bits binary64 s.signals.pressure_vector.deep_debt ∷ to_bits binary64 s.signals.pressure_vector.read
    ∷ focus_flag s.focus.current_focus ∷ focus_level s.focus.current_focus ∷ s.focus.streak
    ∷ s.streaks.enter_read_protect ∷ s.streaks.exit_read_protect ∷ s.streaks.exit_emergency
    ∷ s.times.balanced ∷ s.times.read_protect ∷ s.times.write_emergency ∷ s.times.last_transition
    ∷ s.window.last_probed ∷ s.window.last_resolved
    ∷ s.counters.mode_switches ∷ s.counters.batch_size_sum ∷ s.counters.batch_size_count
    ∷ s.counters.trivial_moves_performed ∷ s.counters.trivial_move_bytes_avoided
    ∷ to_bits binary64 s.counters.predicted_actual_abs_pct_error_sum ∷ s.counters.predicted_actual_samples
    ∷ []

-- ---- a call on words: what it answers, and what the words are after it

unfoldable pub gated : List ℕ → ℕ → ℕ
gated ws refusal = cond (is_state ws) refusal not_a_state

abbrev pub refusal_of : List ℕ → Observed → ℕ
refusal_of ws o = gated ws o.refusal

unfoldable pub words_after : List ℕ → Observed → List ℕ
words_after ws o = cond (eqb (refusal_of ws o) none) (state_words o.state) ws
