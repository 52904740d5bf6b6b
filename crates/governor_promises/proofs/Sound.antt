-- From a fresh governor refusal 1 never occurs: whatever was done before, each mode's own streak stays below its window and the others stay 0.
use Prim.Native.Nat.{ℕ, ◌<◌}
use native.Mathlib.Omega.{arith}
use mathlib.Core.Path.{◌≡◌, refl}
use mathlib.Core.Bool.{Bool, true, false, not, ◌&&◌}
use mathlib.Core.List.{List, [], ◌∷◌}
use lib.Dec.{T, ltb, eqb, lt→ltb}
use lib.Ieee.Fits.{and_i, and_r}
use Rattle.lists.specs.Any.{any_of}
use Rattle.refusals.specs.Refusals.{Check, first_fault, bad_state}
use Rattle.refusals.specs.Checks.{never_gives}
use Rattle.state.specs.declared.GovernorState.{GovernorState}
use Rattle.kinds.specs.declared.mode.GovernorMode.{GovernorMode}
use Rattle.kinds.specs.declared.mode.GovernorMode.TheVariants.{Balanced, ReadProtect, WriteEmergency}
use Rattle.state.specs.declared.Streaks.{Streaks}
use Rattle.modes.specs.declared.NextMode.{NextMode}
use Rattle.kinds.specs.declared.kind.CandidateKind.TheVariants.{L0, LevelBatch, TrivialMove}
use Rattle.kinds.specs.Tuning.{Tuning, source}
use Rattle.state.specs.State.{fresh_of}
use Rattle.modes.specs.Mode.{switched}
use Rattle.sound.specs.Sound.{sound_of}
use Rattle.pressure.specs.Pressure.{probed_of}
use Rattle.governor.specs.Observe.{accepted_of, observe_checks, observe_fault, observed_of}
use Rattle.engine.specs.Engine.{sample_of, engine_checks, engine_fault, engine_of}
use Rattle.report.specs.Counters.{chosen_of, move_checks, move_fault, trivial_move_of, outcome_checks, outcome_fault, outcome_of}
use Rattle.snapshot.specs.Snapshot.{snapshot_checks, snapshot_fault}
use Rattle.governor_promises.specs.Reading.{Observation, sampled, counted, Seen, seen_of}
use Rattle.governor_promises.specs.Calls.{Action, observe, move, outcome, choose, focus, snapshot, answer_of, acted, after}
use Rattle.governor_promises.proofs.Thresholds.{source-apart}
use Rattle.governor_promises.proofs.Turns.{at, grown, ends_in, window, turned, longer, by_turn}
use Rattle.governor_promises.proofs.Answers.{by-fault, new_of, by_answer, snapshot-fault}

abbrev quiet : List Check → Type 0
quiet cs = any_of (λ c. eqb c.number bad_state && c.found) cs ≡ false

silent : (cs : List Check) → quiet cs → ¬ (first_fault cs ≡ bad_state)
silent cs q = never_gives bad_state cs (λ e. omega arith) q

-- a sound state's first check finds nothing
first-quiet : (sound : Bool) → T sound → eqb bad_state bad_state && not sound ≡ false
first-quiet true t = refl
first-quiet false t = elim t [ ]

module _ (G : Tuning) (exits : 0 < G.exit_emergency) (enters : 0 < G.enter_read_protect) (leaves : 0 < G.exit_read_protect) where
  abbrev Sound : NextMode → Type 0
  Sound t = T (sound_of G t.mode t.streaks)

  cleared : (m : GovernorMode) → Sound (switched m)
  unfolding sound_of
  cleared Balanced = and_i (ltb 0 G.enter_read_protect) _ (lt→ltb 0 _ enters) tt
  cleared ReadProtect = and_i (ltb 0 G.exit_read_protect) _ (lt→ltb 0 _ leaves) tt
  cleared WriteEmergency = and_i (ltb 0 G.exit_emergency) _ (lt→ltb 0 _ exits) tt

  goes_on : (m : GovernorMode) (k : Streaks) (n : ℕ) → Sound (at m k) → n < window G m → Sound (at m (grown m k n))
  unfolding sound_of
  goes_on Balanced k n h lt = and_i (ltb n _) _ (lt→ltb n _ lt) (and_r (ltb k.enter_read_protect _) _ h)
  goes_on ReadProtect k n h lt = and_i (ltb n _) _ (lt→ltb n _ lt) (and_r (ltb k.exit_read_protect _) _ h)
  goes_on WriteEmergency k n h lt = and_i (ltb n _) _ (lt→ltb n _ lt) (and_r (ltb k.exit_emergency _) _ h)

  turns : (m : GovernorMode) (k : Streaks) (x : Seen) → Sound (at m k) → Sound (turned G m k x)
  turns m k x h = by_turn G Sound m k x (λ _ _. cleared WriteEmergency) (λ _ _. cleared (ends_in m)) (λ _ lt. goes_on m k (longer G m k x) h lt)

  abbrev SoundIn : GovernorState → Type 0
  SoundIn s = Sound (at s.mode s.streaks)

  accepted : (s : GovernorState) (now : ℕ) (o : Observation) → SoundIn s → SoundIn (new_of G s now o)
  unfolding accepted_of
  accepted s now (sampled x) h = turns s.mode s.streaks (seen_of x (probed_of s.signals x)) h
  accepted s now (counted e a) h = turns s.mode s.streaks (seen_of (sample_of s e a) (probed_of s.signals (sample_of s e a))) h

  keeps : (s : GovernorState) (a : Action) → SoundIn s → SoundIn (acted G s a).state
  unfolding trivial_move_of outcome_of chosen_of
  keeps s (observe now o) h = by_answer (λ _ t. SoundIn t) G s now o (accepted s now o h) h
  keeps s (move bytes) h = by-fault (λ _ t. SoundIn t) (move_fault s) s _ h h
  keeps s (outcome predicted actual) h = by-fault (λ _ t. SoundIn t) (outcome_fault s predicted actual) s _ h h
  keeps s (choose L0) h = h
  keeps s (choose (LevelBatch level length)) h = h
  keeps s (choose (TrivialMove level)) h = h
  keeps s (focus f) h = h
  keeps s (snapshot now) h = h

  keeps-all : (s : GovernorState) (l : List Action) → SoundIn s → SoundIn (after G s l)
  unfolding after
  keeps-all s [] h = h
  keeps-all s (a ∷ l) h = keeps-all (acted G s a).state l (keeps s a h)

  observed : (s : GovernorState) (now : ℕ) (o : Observation) → SoundIn s → ¬ ((answer_of G s now o).refusal ≡ bad_state)
  unfolding observed_of observe_fault engine_of engine_fault any_of
  observed s now (sampled x) h =
      silent (observe_checks G s now x) (rw (first-quiet (sound_of G s.mode s.streaks) h))
  observed s now (counted e a) h =
      silent (engine_checks G s now e a) (rw (first-quiet (sound_of G s.mode s.streaks) h))

  answers : (s : GovernorState) (a : Action) → SoundIn s → ¬ ((acted G s a).refusal ≡ bad_state)
  unfolding trivial_move_of outcome_of snapshot_fault any_of
  answers s (observe now o) h = observed s now o h
  answers s (move bytes) h = silent (move_checks s) refl
  answers s (outcome predicted actual) h = silent (outcome_checks s predicted actual) refl
  answers s (choose kind) h = silent [] refl
  answers s (focus f) h = silent [] refl
  answers s (snapshot now) h = rw (snapshot-fault s now) (silent (snapshot_checks s now) refl)

  -- whatever was done before, and whatever is done next
  pub never_bad_state : (clock : ℕ) (l : List Action) (a : Action) → ¬ ((acted G (after G (fresh_of clock) l) a).refusal ≡ bad_state)
  never_bad_state clock l a = answers (after G (fresh_of clock) l) a (keeps-all (fresh_of clock) l (cleared Balanced))

pub source_never_bad_state : (clock : ℕ) (l : List Action) (a : Action) → ¬ ((acted source (after source (fresh_of clock) l) a).refusal ≡ bad_state)
source_never_bad_state = never_bad_state source source-apart.exits source-apart.enters source-apart.leaves
