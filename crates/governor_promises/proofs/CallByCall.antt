-- Demand 3, over any calls: the mode after each is the one that the list of the observations accepted so far reads as.
use Prim.Native.Nat.{ℕ, zero, suc, ◌<◌}
use native.Mathlib.Omega.{arith}
use mathlib.Core.Path.{◌≡◌, refl, ap, ◌∙◌}
use mathlib.Core.Logic.{◌↔◌}
use mathlib.Core.Bool.{Bool, cond}
use mathlib.Core.List.{List, [], ◌∷◌, flat_map}
use lib.ListN.{length, take, get_or}
use Rattle.state.specs.declared.GovernorState.{GovernorState}
use Rattle.kinds.specs.declared.mode.GovernorMode.{GovernorMode}
use Rattle.kinds.specs.declared.mode.GovernorMode.TheVariants.{Balanced, ReadProtect, WriteEmergency}
use Rattle.modes.specs.declared.NextMode.{NextMode}
use Rattle.kinds.specs.Tuning.{Tuning, source}
use Rattle.state.specs.State.{fresh_of}
use Rattle.pressure.specs.Sample.{fraction_of}
use Rattle.pressure.specs.Pressure.{blended_of, signals_of}
use Rattle.governor.specs.Observe.{accepted_of}
use Rattle.engine.specs.Engine.{per_get}
use Rattle.report.specs.Counters.{chosen_of, move_fault, trivial_move_of, outcome_fault, outcome_of}
use Rattle.snapshot.specs.Snapshot.{snapshot_of, snapshot_refusal}
use Rattle.kinds.specs.declared.kind.CandidateKind.TheVariants.{L0, LevelBatch, TrivialMove}
use Rattle.governor_promises.specs.Reading.{Observation, sampled, counted, Seen, seen_from, seen, InEmergency, InReadProtect, ReadsAs, Apart}
use Rattle.governor_promises.specs.Calls.{Action, observe, move, outcome, choose, focus, snapshot, acted, after, modes, accepted, observed, observations}
use Rattle.governor_promises.proofs.Thresholds.{source-apart}
use Rattle.governor_promises.proofs.Turns.{at, run}
use Rattle.governor_promises.proofs.ModeRead.{mode-read}
use Rattle.governor_promises.proofs.Answers.{Says, by-fault, by-same, new_of, by_answer}

abbrev turned : GovernorState → NextMode
turned s = at s.mode s.streaks

-- a list as it is looked at from a state on
abbrev seen_by : GovernorState → List Observation → List Seen
seen_by s xs = seen_from s.signals.tables_probed_ewma s.window.last_probed s.window.last_resolved xs

module _ (G : Tuning) where
  -- an accepted observation is one step, and leaves the smoothed count and the counters that the rest is looked at with
  one : (s : GovernorState) (now : ℕ) (o : Observation) (xs : List Observation)
      → run G (turned (new_of G s now o)) (seen_by (new_of G s now o) xs) ≡ run G (turned s) (seen_by s (o ∷ xs))
  unfolding run seen_from accepted_of signals_of blended_of fraction_of per_get
  one s now (sampled x) xs = refl
  one s now (counted e a) xs = refl

  -- after a call the accepted ones that follow are looked at as before it, with this one in front if it was accepted
  abbrev Step : GovernorState → Action → Bool → GovernorState → Type 0
  Step s a b t = (l : List Action) → run G (turned t) (seen_by t (flat_map observed l)) ≡ run G (turned s) (seen_by s (flat_map observed (cond b (a ∷ l) l)))

  steps : (s : GovernorState) (a : Action) → Says (Step s a) (acted G s a)
  unfolding trivial_move_of outcome_of chosen_of flat_map
  steps s (observe now o) = by_answer (Step s (observe now o)) G s now o (λ l. one s now o (flat_map observed l)) (λ l. refl)
  steps s (move bytes) = by-fault (Step s (move bytes)) (move_fault s) s _ (λ l. refl) (λ l. refl)
  steps s (outcome predicted actual) = by-fault (Step s (outcome predicted actual)) (outcome_fault s predicted actual) s _ (λ l. refl) (λ l. refl)
  steps s (choose L0) = λ l. refl
  steps s (choose (LevelBatch level n)) = λ l. refl
  steps s (choose (TrivialMove level)) = λ l. refl
  steps s (focus f) = λ l. refl
  steps s (snapshot now) = by-same (Step s (snapshot now)) (snapshot_refusal (snapshot_of s now)) s (λ l. refl) (λ l. refl)

  -- a run of calls is a run of the accepted observations
  after_run : (s : GovernorState) (l : List Action) → (after G s l).mode ≡ (run G (turned s) (seen_by s (observations G s l))).mode
  unfolding after accepted flat_map run seen_from
  after_run s [] = refl
  after_run s (a ∷ l) =
      let t = (acted G s a).state in
      after_run t l ∙ ap (λ (r : NextMode). r.mode) (steps s a (accepted G t l))

  mode-at : (s : GovernorState) (n : ℕ) (l : List Action) (d : GovernorMode) → n < length l → get_or (modes G s l) n d ≡ (after G s (take (suc n) l)).mode
  unfolding modes after
  mode-at s n [] d h = absurd (omega arith)
  mode-at s zero (a ∷ l) d h = refl
  mode-at s (suc n) (a ∷ l) d h = mode-at (acted G s a).state n l d (omega arith)

  pub reads_calls : Apart G → (clock : ℕ) (l : List Action) (m : GovernorMode)
      → ((after G (fresh_of clock) l).mode ≡ m) ↔ ReadsAs G (seen (observations G (fresh_of clock) l)) m
  reads_calls A clock l m = rw (after_run (fresh_of clock) l) (mode-read G A (seen (observations G (fresh_of clock) l)) m)

  pub call_by_call : Apart G → (clock : ℕ) (l : List Action) (n : ℕ) → n < length l → (m : GovernorMode)
      → (get_or (modes G (fresh_of clock) l) n Balanced ≡ m) ↔ ReadsAs G (seen (observations G (fresh_of clock) (take (suc n) l))) m
  call_by_call A clock l n h m = rw (mode-at (fresh_of clock) n l Balanced h) (reads_calls A clock (take (suc n) l) m)

-- ---- with the source's numbers

abbrev pub reached : ℕ → List Action → GovernorMode
reached clock l = (after source (fresh_of clock) l).mode

abbrev pub list : ℕ → List Action → List Seen
list clock l = seen (observations source (fresh_of clock) l)

pub emergency_exactly : (clock : ℕ) (l : List Action) → (reached clock l ≡ WriteEmergency) ↔ InEmergency source (list clock l)
emergency_exactly clock l = reads_calls source source-apart clock l WriteEmergency

pub protect_exactly : (clock : ℕ) (l : List Action) → (reached clock l ≡ ReadProtect) ↔ InReadProtect source (list clock l)
protect_exactly clock l = reads_calls source source-apart clock l ReadProtect

pub balanced_otherwise : (clock : ℕ) (l : List Action) → ¬ InEmergency source (list clock l) → ¬ InReadProtect source (list clock l) → reached clock l ≡ Balanced
balanced_otherwise clock l p q = (reads_calls source source-apart clock l Balanced).1 (p, q)

pub source_call_by_call : (clock : ℕ) (l : List Action) (n : ℕ) → n < length l → (m : GovernorMode)
    → (get_or (modes source (fresh_of clock) l) n Balanced ≡ m) ↔ ReadsAs source (list clock (take (suc n) l)) m
source_call_by_call = call_by_call source source-apart
