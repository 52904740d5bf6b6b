-- The words that an accepted observation writes, among those that it leaves. Definitions only.
pub mod Laws
pub mod Engine
use Rattle.std.specs.Prelude.{ℕ, ◌+◌, ◌-◌, ◌^◌, Bool, cond, ◌&&◌, ◌||◌, ltb, List, [], ◌∷◌, get_or, set}
use Rattle.std.proofs.lemmas.List.Edits.{sets}
use Rattle.std.specs.Float.{binary64}
use Rattle.std.specs.Float.Ieee.{of_bits, to_bits}
use Rattle.kinds.specs.declared.mode.GovernorMode.{GovernorMode}
use Rattle.kinds.specs.Numbers.{mode_number}
use Rattle.kinds.specs.Tuning.{source}
use Rattle.state.specs.declared.GovernorState.{GovernorState}
use Rattle.state.specs.declared.Signals.{Signals}
use Rattle.state.specs.declared.Streaks.{Streaks}
use Rattle.state.specs.declared.Times.{Times}
use Rattle.state.specs.State.{full}
use Rattle.state.specs.Clock.{time_up_to, times_of}
use Rattle.sound.specs.Sound.{differ}
use Rattle.pressure.specs.declared.PressureSample.{PressureSample}
use Rattle.pressure.specs.Pressure.{signals_of}
use Rattle.governor.specs.Observe.{next_of, switches}
use Rattle.state_words.specs.StateWords.{state_from}

-- 3, by the mode after the observation
unfoldable pub full_at : GovernorState → ℕ → GovernorMode → Bool
full_at s clock is = (differ s.mode is && full s.counters.mode_switches) || ltb (2 ^ 64 - 1) (time_up_to s.mode s.times clock)

-- words 1 to 8
unfoldable pub signal_words : GovernorMode → Signals → List ℕ
signal_words m g =
    mode_number m
    ∷ to_bits binary64 g.tables_probed_ewma ∷ to_bits binary64 g.pressure_ewma ∷ to_bits binary64 g.last_pressure ∷ to_bits binary64 g.debt_ewma
    ∷ to_bits binary64 g.pressure_vector.l0 ∷ to_bits binary64 g.pressure_vector.deep_debt ∷ to_bits binary64 g.pressure_vector.read
    ∷ []

-- words 12 to 18
unfoldable pub time_words : Streaks → Times → List ℕ
time_words k t =
    k.enter_read_protect ∷ k.exit_read_protect ∷ k.exit_emergency
    ∷ t.balanced ∷ t.read_protect ∷ t.write_emergency ∷ t.last_transition
    ∷ []

-- words 1 to 8, 12 to 18, 21 and 26 of a list
abbrev pub overlaid : List ℕ → List ℕ → List ℕ → ℕ → ℕ → List ℕ
overlaid ws a b c d = set (set (sets (sets ws 1 a) 12 b) 21 c) 26 d

-- mode and signals, streaks and times, the switches, and the sum of errors with the one pattern for a NaN
unfoldable pub observed_words : List ℕ → ℕ → PressureSample → List ℕ
observed_words ws clock p =
    let s = state_from ws in
    let t = next_of source s p in
    overlaid ws (signal_words t.mode (signals_of source s.signals p)) (time_words t.streaks (times_of s.mode s.times clock))
    (cond (switches source s p) (get_or ws 21 0 + 1) (get_or ws 21 0)) (to_bits binary64 (of_bits binary64 (get_or ws 26 0)))
