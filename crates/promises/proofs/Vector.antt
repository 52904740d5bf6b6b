-- From a fresh governor refusal 7 never occurs: after any run of calls in which no accepted probe value is below 0, the choice takes the governor's pressure vector.
use Prim.Native.Nat.{ℕ}
use native.Mathlib.Omega.{arith}
use mathlib.Core.Path.{◌≡◌, refl}
use mathlib.Core.Bool.{Bool, true, false, cond}
use mathlib.Core.List.{List, [], ◌∷◌, flat_map}
use lib.Dec.{ltb}
use lib.Ieee.{Float, binary64, of_bits, lt, le}
use lib.Ieee.Bits.{is_true}
use lib.Ieee.Fits.{and_i}
use Rattle.arith.specs.Floats.{f0, f1}
use Rattle.arith.specs.Floats.Sign.{Signed, float_sign}
use Rattle.arith.specs.Floats.NotBelow.{clear_not_below, div_not_below}
use Rattle.arith.specs.Floats.InUnit.{InUnit}
use Rattle.lists.specs.Tests.{by-test}
use Rattle.lists.specs.Any.{any_of}
use Rattle.refusals.specs.Refusals.{bad_vector}
use Rattle.refusals.specs.Checks.{never_gives}
use Rattle.kinds.specs.declared.vector.PressureVector.{PressureVector}
use Rattle.kinds.specs.declared.focus.FocusState.{FocusState}
use Rattle.kinds.specs.declared.kind.CandidateKind.TheVariants.{L0, LevelBatch, TrivialMove}
use Rattle.kinds.specs.Tuning.{Tuning, source}
use Rattle.candidate_faults.specs.Candidates.{in_unit}
use Rattle.state.specs.declared.GovernorState.{GovernorState}
use Rattle.state.specs.declared.Window.{Window}
use Rattle.state.specs.State.{fresh_of}
use Rattle.pressure.specs.Pressure.Range.{Ranged, signals_ranged}
use Rattle.windows.specs.declared.ReadAmpStats.{ReadAmpStats}
use Rattle.governor.specs.Observe.{accepted_of}
use Rattle.windows.specs.Windows.{resolved_since, probed_since}
use Rattle.engine.specs.Engine.{per_get, sample_of}
use Rattle.report.specs.Counters.{chosen_of, move_fault, trivial_move_of, outcome_fault, outcome_of}
use Rattle.snapshot.specs.Snapshot.{snapshot_of, snapshot_refusal}
use Rattle.choice.specs.Choice.Call.{pick_checks, pick_fault, picked_of}
use Rattle.choice.specs.Choice.Refusal.{picked-refusal}
use Rattle.governor_promises.specs.Reading.{Observation, sampled, counted}
use Rattle.governor_promises.specs.Calls.{Action, observe, move, outcome, choose, focus, snapshot, acted, after, accepted, observed, observations}
use Rattle.promises.specs.Vector.{InUnits, NoneBelow}
use Rattle.governor_promises.proofs.Answers.{Says, by-fault, by-same, new_of, by_answer}

abbrev RangedIn : GovernorState → Type 0
RangedIn s = Ranged s.signals

-- probes for each get are a quotient of counts, or the smoothed count itself
per_get_lem : (w : Window) (smoothed : Float) (a : ReadAmpStats) → lt smoothed f0 ≡ false → lt (per_get w smoothed a) f0 ≡ false
unfolding per_get
per_get_lem w smoothed a h =
    by-test (λ (x : Float). lt x f0 ≡ false) (ltb 0 (resolved_since w a)) _ _ (λ _. div_not_below binary64 _ _ (clear_not_below _ (float_sign (probed_since w a))) (float_sign (resolved_since w a))) (λ _. h)

zero : InUnit f0
unfolding le of_bits
zero = (tt, tt)

fresh : (clock : ℕ) → RangedIn (fresh_of clock)
unfolding lt of_bits
fresh clock = record { probed = refl; debt = zero; l0 = zero; deep = zero; read = zero }

in_unit_lem : (x : Float) → InUnit x → in_unit x ≡ true
unfolding in_unit
in_unit_lem x h = is_true _ (and_i (le f0 x) (le x f1) h.0 h.1)

parted : (o : Observation) (os : List Observation) → NoneBelow (o ∷ os) → NoneBelow (o ∷ []) × NoneBelow os
parted (sampled x) os h = ((h.0, tt), h.1)
parted (counted e a) os h = (tt, h)

module _ (G : Tuning) (fraction : Signed false G.enter_fraction) (probed : Signed false G.enter_probed) where
  observes : (s : GovernorState) (now : ℕ) (o : Observation) → RangedIn s → NoneBelow (o ∷ []) → RangedIn (new_of G s now o)
  unfolding accepted_of
  observes s now (sampled x) r h = signals_ranged G fraction probed s.signals x r.probed r.debt h.0
  observes s now (counted e a) r h = signals_ranged G fraction probed s.signals (sample_of s e a) r.probed r.debt (per_get_lem s.window _ a r.probed)

  -- a call uses up its own part of the demand on the accepted observations
  abbrev Step : Action → Bool → GovernorState → Type 0
  Step a b t = (l : List Action) → NoneBelow (flat_map observed (cond b (a ∷ l) l)) → RangedIn t × NoneBelow (flat_map observed l)

  steps : (s : GovernorState) (a : Action) → RangedIn s → Says (Step a) (acted G s a)
  unfolding trivial_move_of outcome_of chosen_of flat_map
  steps s (observe now o) r =
      by_answer (Step (observe now o)) G s now o (λ l n. let h = parted o (flat_map observed l) n in (observes s now o r h.0, h.1)) (λ l n. (r, n))
  steps s (move bytes) r = by-fault (Step (move bytes)) (move_fault s) s _ (λ l n. (r, n)) (λ l n. (r, n))
  steps s (outcome predicted actual) r = by-fault (Step (outcome predicted actual)) (outcome_fault s predicted actual) s _ (λ l n. (r, n)) (λ l n. (r, n))
  steps s (choose L0) r = λ l n. (r, n)
  steps s (choose (LevelBatch level length)) r = λ l n. (r, n)
  steps s (choose (TrivialMove level)) r = λ l n. (r, n)
  steps s (focus f) r = λ l n. (r, n)
  steps s (snapshot now) r = by-same (Step (snapshot now)) (snapshot_refusal (snapshot_of s now)) s (λ l n. (r, n)) (λ l n. (r, n))

  runs : (s : GovernorState) (l : List Action) → RangedIn s → NoneBelow (observations G s l) → RangedIn (after G s l)
  unfolding after accepted
  runs s [] r n = r
  runs s (a ∷ l) r n =
      let t = (acted G s a).state in
      let next = steps s a r (accepted G t l) n in
      runs t l next.0 next.1

  module _ (clock : ℕ) (l : List Action) (none : NoneBelow (observations G (fresh_of clock) l)) where
    abbrev vector : PressureVector
    vector = (after G (fresh_of clock) l).signals.pressure_vector

    pub vector_in_unit : InUnits vector
    vector_in_unit =
        let r = runs (fresh_of clock) l (fresh clock) none in
        record { l0 = in_unit_lem _ r.l0; deep_debt = in_unit_lem _ r.deep; read = in_unit_lem _ r.read }

    -- whatever there is to choose from
    pub never_bad_vector : (f : FocusState) (cw ew : List ℕ) → ¬ ((picked_of vector f cw ew).refusal ≡ bad_vector)
    unfolding pick_fault any_of
    never_bad_vector f cw ew =
        let u = vector_in_unit in
        rw (picked-refusal vector f cw ew) (never_gives bad_vector (pick_checks vector cw ew) (λ e. omega arith) (rw (u.l0, u.deep_debt, u.read) refl))

-- ---- with the source's numbers

-- the vector after a run
abbrev pub reached : ℕ → List Action → PressureVector
reached clock l = (after source (fresh_of clock) l).signals.pressure_vector

pub source_vector_in_unit : (clock : ℕ) (l : List Action) → NoneBelow (observations source (fresh_of clock) l) → InUnits (reached clock l)
unfolding of_bits
source_vector_in_unit = vector_in_unit source refl refl

pub source_never_bad_vector : (clock : ℕ) (l : List Action) → NoneBelow (observations source (fresh_of clock) l) → (f : FocusState) (cw ew : List ℕ) → ¬ ((picked_of (reached clock l) f cw ew).refusal ≡ bad_vector)
unfolding of_bits
source_never_bad_vector = never_bad_vector source refl refl
