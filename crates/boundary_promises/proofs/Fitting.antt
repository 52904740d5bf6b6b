-- After every call the fields of a state fit their types: floats are what an operation of binary64 gives, and no streak grows past its window.
use Prim.Native.Nat.{ℕ, ◌-◌, ◌^◌, ◌≤◌, ◌<◌}
use native.Mathlib.Omega.{arith}
use mathlib.Core.Bool.{Bool}
use lib.Dec.{T}
use lib.Ieee.{Float, binary64, fits, lt, is_nan}
use lib.Ieee.Bits.{of_bits-fits}
use lib.Ieee.Fits.{cond-fits, add-fits, div-fits}
use Rattle.arith.specs.Floats.{f0, f1, minimum_of, maximum_of, clamp_of}
use Rattle.kinds.specs.declared.mode.GovernorMode.{GovernorMode}
use Rattle.kinds.specs.declared.mode.GovernorMode.TheVariants.{Balanced, ReadProtect, WriteEmergency}
use Rattle.kinds.specs.declared.focus.FocusState.{FocusState}
use Rattle.kinds.specs.declared.kind.CandidateKind.TheVariants.{L0, LevelBatch, TrivialMove}
use Rattle.kinds.specs.Tuning.{source}
use Rattle.state.specs.declared.GovernorState.{GovernorState}
use Rattle.state.specs.declared.Streaks.{Streaks}
use Rattle.state.specs.declared.Signals.{Signals}
use Rattle.state.specs.declared.Window.{Window}
use Rattle.state.specs.declared.Counters.{Counters}
use Rattle.state.specs.State.{fresh_of, focused_of}
use Rattle.modes.specs.declared.NextMode.{NextMode}
use Rattle.modes.specs.Mode.{switched}
use Rattle.pressure.specs.declared.PressureSample.{PressureSample}
use Rattle.pressure.specs.Smoothing.{smoothed_of}
use Rattle.pressure.specs.Pressure.{share_of, components_of, blended_of, probed_of, signals_of}
use Rattle.governor.specs.Observe.{accepted_of}
use Rattle.engine.specs.Engine.{window_of, sample_of}
use Rattle.report.specs.Counters.{counted_in, chosen_of, move_fault, trivial_move_of, outcome_fault, outcome_of}
use Rattle.governor_promises.specs.Reading.{Seen, seen_of, sampled, counted}
use Rattle.governor_promises.specs.Calls.{Action, observe, move, outcome, choose, focus, snapshot, acted}
use Rattle.governor_promises.proofs.Turns.{grown, ends_in, window, turned, longer, by_turn}
use Rattle.governor_promises.proofs.Answers.{by-fault, by_answer}
use Rattle.state_words.specs.StateWords.{focus_level}
use Rattle.state_words.specs.StateWords.Back.{Fits}
use Rattle.boundary_promises.specs.WordRuns.{Handed}

abbrev Fit : Float → Type 0
Fit x = T (fits binary64 x)

f0-fits : Fit f0
f0-fits = of_bits-fits binary64 0

f1-fits : Fit f1
f1-fits = of_bits-fits binary64 0x3ff0000000000000

-- ---- a float that is chosen among floats, and a smoothed one

minimum_fits : (x y : Float) → Fit x → Fit y → Fit (minimum_of x y)
unfolding minimum_of
minimum_fits x y p q = cond-fits binary64 (is_nan x) _ _ q (cond-fits binary64 (lt y x) _ _ q p)

maximum_fits : (x y : Float) → Fit x → Fit y → Fit (maximum_of x y)
unfolding maximum_of
maximum_fits x y p q = cond-fits binary64 (is_nan x) _ _ q (cond-fits binary64 (lt x y) _ _ q p)

clamp_fits : (x : Float) → Fit x → Fit (clamp_of x)
unfolding clamp_of
clamp_fits x p = cond-fits binary64 (lt x f0) _ _ f0-fits (cond-fits binary64 (lt f1 x) _ _ f1-fits p)

share_fits : (x limit : Float) → Fit (share_of x limit)
share_fits x limit = minimum_fits _ _ (div-fits binary64 x limit) f1-fits

smoothed_fits : (old new : Float) → Fit (smoothed_of old new)
unfolding smoothed_of
smoothed_fits old new = add-fits binary64 _ _

-- ---- the state after a call

abbrev SignalsFit : Signals → Type 0
SignalsFit g =
    Fit g.tables_probed_ewma × Fit g.pressure_ewma × Fit g.last_pressure × Fit g.debt_ewma
    × Fit g.pressure_vector.l0 × Fit g.pressure_vector.deep_debt × Fit g.pressure_vector.read

signals_fit : (g : Signals) (p : PressureSample) → SignalsFit (signals_of source g p)
unfolding signals_of blended_of components_of
signals_fit g p =
    (smoothed_fits _ _, smoothed_fits _ _, clamp_fits _ (maximum_fits _ _ (smoothed_fits _ _) (share_fits _ _)), smoothed_fits _ _, share_fits _ _, smoothed_fits _ _, share_fits _ _)

abbrev StreaksFit : Streaks → Type 0
StreaksFit k = (k.enter_read_protect ≤ 2 ^ 32 - 1) × (k.exit_read_protect ≤ 2 ^ 32 - 1) × (k.exit_emergency ≤ 2 ^ 32 - 1)

grown-fit : (m : GovernorMode) (k : Streaks) (n : ℕ) → StreaksFit k → n < window source m → StreaksFit (grown m k n)
grown-fit Balanced k n h l = (omega arith, h.1, h.2)
grown-fit ReadProtect k n h l = (h.0, omega arith, h.2)
grown-fit WriteEmergency k n h l = (h.0, h.1, omega arith)

none-fit : (m : GovernorMode) → StreaksFit (switched m).streaks
none-fit m = (omega arith, omega arith, omega arith)

streaks_fit : (m : GovernorMode) (k : Streaks) (x : Seen) → StreaksFit k → StreaksFit (turned source m k x).streaks
streaks_fit m k x h =
    by_turn source (λ (t : NextMode). StreaksFit t.streaks) m k x (λ _ _. none-fit WriteEmergency) (λ _ _. none-fit (ends_in m)) (λ _ l. grown-fit m k (longer source m k x) h l)

observed-fits : (s : GovernorState) (w : Window) (now : ℕ) (p : PressureSample) → Fits s → Fits (accepted_of source s w now p)
unfolding accepted_of
observed-fits s w now p h =
    let g = signals_fit s.signals p in
    let k = streaks_fit s.mode s.streaks (seen_of p (probed_of s.signals p)) (h.smalls.enter, h.smalls.exit, h.smalls.emergency) in
    record {
      floats = record { probed = g.0; ewma = g.1; pressure = g.2; debt = g.3; l0 = g.4; deep = g.5; read = g.6; error = h.floats.error };
      smalls = record { level = h.smalls.level; streak = h.smalls.streak; enter = k.0; exit = k.1; emergency = k.2 };
    }

pub fresh-fits : (clock : ℕ) → Fits (fresh_of clock)
fresh-fits clock =
    record {
      floats = record { probed = f0-fits; ewma = f0-fits; pressure = f0-fits; debt = f0-fits; l0 = f0-fits; deep = f0-fits; read = f0-fits; error = f0-fits };
      smalls = record { level = omega arith; streak = omega arith; enter = omega arith; exit = omega arith; emergency = omega arith };
    }

-- other counters, the rest as it was
counted-fits : (s : GovernorState) (c : Counters) → Fits s → Fit c.predicted_actual_abs_pct_error_sum → Fits (counted_in s c)
counted-fits s c h e =
    record {
      floats = record { probed = h.floats.probed; ewma = h.floats.ewma; pressure = h.floats.pressure; debt = h.floats.debt; l0 = h.floats.l0; deep = h.floats.deep; read = h.floats.read; error = e };
      smalls = record { level = h.smalls.level; streak = h.smalls.streak; enter = h.smalls.enter; exit = h.smalls.exit; emergency = h.smalls.emergency };
    }

focused-fits : (s : GovernorState) (f : FocusState) → Fits s → focus_level f.current_focus ≤ 2 ^ 32 - 1 → f.streak ≤ 2 ^ 32 - 1 → Fits (focused_of s f)
focused-fits s f h l k =
    record {
      floats = record { probed = h.floats.probed; ewma = h.floats.ewma; pressure = h.floats.pressure; debt = h.floats.debt; l0 = h.floats.l0; deep = h.floats.deep; read = h.floats.read; error = h.floats.error };
      smalls = record { level = l; streak = k; enter = h.smalls.enter; exit = h.smalls.exit; emergency = h.smalls.emergency };
    }

abbrev Kept : Bool → GovernorState → Type 0
Kept b t = Fits t

pub acted-fits : (s : GovernorState) (a : Action) → Fits s → Handed a → Fits (acted source s a).state
unfolding trivial_move_of outcome_of chosen_of
acted-fits s (observe now (sampled x)) h k = by_answer Kept source s now (sampled x) (observed-fits s s.window now x h) h
acted-fits s (observe now (counted e a)) h k = by_answer Kept source s now (counted e a) (observed-fits s (window_of a) now (sample_of s e a) h) h
acted-fits s (move bytes) h k = by-fault Kept (move_fault s) s _ (counted-fits s _ h h.floats.error) h
acted-fits s (outcome predicted actual) h k = by-fault Kept (outcome_fault s predicted actual) s _ (counted-fits s _ h (add-fits binary64 _ _)) h
acted-fits s (choose L0) h k = h
acted-fits s (choose (LevelBatch level n)) h k = counted-fits s _ h h.floats.error
acted-fits s (choose (TrivialMove level)) h k = h
acted-fits s (focus f) h k = focused-fits s f h k.0 k.1
acted-fits s (snapshot now) h k = h
