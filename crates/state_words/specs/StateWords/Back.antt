-- A state comes back whole from its words, as long as its fields fit their types.
use Rattle.std.specs.Prelude.{◌≡◌, refl, ℕ, ◌-◌, ◌^◌, ◌≤◌, true, T, leb, Option, Some, None}
use Rattle.std.proofs.Common.{le-leb}
use Rattle.std.specs.Float.{binary64}
use Rattle.std.specs.Float.Ieee.{fits}
use Rattle.std.specs.Float.Ieee.Bits.{of_bits-to_bits}
use Rattle.kinds.specs.declared.mode.GovernorMode.{GovernorMode}
use Rattle.kinds.specs.declared.mode.GovernorMode.TheVariants.{Balanced, ReadProtect, WriteEmergency}
use Rattle.kinds.specs.Numbers.{mode_number}
use Rattle.state.specs.declared.GovernorState.{GovernorState}
use Rattle.state_words.specs.StateWords.{focus_good, is_state, mode_from, focus_from, vector_in, signals_in, times_in, counters_in, state_from, state_in, focus_flag, focus_level, state_words}

-- the floats of a state
pub record Floats (s : GovernorState) : Type 0 where
  pub probed : T (fits binary64 s.signals.tables_probed_ewma)
  pub ewma : T (fits binary64 s.signals.pressure_ewma)
  pub pressure : T (fits binary64 s.signals.last_pressure)
  pub debt : T (fits binary64 s.signals.debt_ewma)
  pub l0 : T (fits binary64 s.signals.pressure_vector.l0)
  pub deep : T (fits binary64 s.signals.pressure_vector.deep_debt)
  pub read : T (fits binary64 s.signals.pressure_vector.read)
  pub error : T (fits binary64 s.counters.predicted_actual_abs_pct_error_sum)

-- its small numbers
pub record Smalls (s : GovernorState) : Type 0 where
  pub level : focus_level s.focus.current_focus ≤ 2 ^ 32 - 1
  pub streak : s.focus.streak ≤ 2 ^ 32 - 1
  pub enter : s.streaks.enter_read_protect ≤ 2 ^ 32 - 1
  pub exit : s.streaks.exit_read_protect ≤ 2 ^ 32 - 1
  pub emergency : s.streaks.exit_emergency ≤ 2 ^ 32 - 1

-- what its types say of a state in memory
pub record Fits (s : GovernorState) : Type 0 where
  pub floats : Floats s
  pub smalls : Smalls s

mode-good : (m : GovernorMode) → leb (mode_number m) 2 ≡ true
mode-good Balanced = refl
mode-good ReadProtect = refl
mode-good WriteEmergency = refl

mode-back : (m : GovernorMode) → mode_from (mode_number m) ≡ m
unfolding mode_from
mode-back Balanced = refl
mode-back ReadProtect = refl
mode-back WriteEmergency = refl

pub focus-good : (f : Option ℕ) → focus_level f ≤ 2 ^ 32 - 1 → focus_good (focus_flag f) (focus_level f) ≡ true
unfolding focus_good
focus-good None h = refl
focus-good (Some l) h = le-leb l (2 ^ 32 - 1) h

pub focus-back : (f : Option ℕ) (n : ℕ) → focus_from (focus_flag f) (focus_level f) n ≡ (record { current_focus = f; streak = n })
unfolding focus_from
focus-back None n = refl
focus-back (Some l) n = refl

pub words-good : (s : GovernorState) → Smalls s → is_state (state_words s) ≡ true
unfolding is_state state_words
words-good s h =
    rw (
      mode-good s.mode,
      focus-good s.focus.current_focus h.level,
      le-leb s.focus.streak (2 ^ 32 - 1) h.streak,
      le-leb s.streaks.enter_read_protect (2 ^ 32 - 1) h.enter,
      le-leb s.streaks.exit_read_protect (2 ^ 32 - 1) h.exit,
      le-leb s.streaks.exit_emergency (2 ^ 32 - 1) h.emergency,
    )

pub back : (s : GovernorState) → Fits s → state_in (state_words s) ≡ s
unfolding state_in state_from state_words signals_in vector_in times_in counters_in
back s h = rw (words-good s h.smalls) (from_back h.floats)
  where
    from_back : Floats s → state_from (state_words s) ≡ s
    from_back h =
        rw (
          mode-back s.mode,
          focus-back s.focus.current_focus s.focus.streak,
          of_bits-to_bits binary64 s.signals.tables_probed_ewma h.probed,
          of_bits-to_bits binary64 s.signals.pressure_ewma h.ewma,
          of_bits-to_bits binary64 s.signals.last_pressure h.pressure,
          of_bits-to_bits binary64 s.signals.debt_ewma h.debt,
          of_bits-to_bits binary64 s.signals.pressure_vector.l0 h.l0,
          of_bits-to_bits binary64 s.signals.pressure_vector.deep_debt h.deep,
          of_bits-to_bits binary64 s.signals.pressure_vector.read h.read,
          of_bits-to_bits binary64 s.counters.predicted_actual_abs_pct_error_sum h.error,
        )
