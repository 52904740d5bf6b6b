-- A call answers 0 and a new state, or a fault's number and the old one; a snapshot has the old one both ways. So a refused call changes nothing.
use Prim.Native.Nat.{ℕ}
use mathlib.Core.Path.{◌≡◌, refl, sym}
use mathlib.Core.Bool.{Bool, true, false, cond}
use mathlib.Core.List.{[], ◌∷◌}
use lib.Dec.{T, eqb, eqb→eq}
use borrow.Author.Tests.{eqb-true, eq-eqb, ne_eqb}
use Rattle.refusals.specs.Refusals.{none}
use Rattle.state.specs.declared.GovernorState.{GovernorState}
use Rattle.kinds.specs.Tuning.{Tuning}
use Rattle.governor.specs.Observe.{observe_fault, accepted_of, observed_of}
use Rattle.state.specs.State.{Observed, answered}
use Rattle.engine.specs.Engine.{engine_fault, window_of, sample_of, engine_of}
use Rattle.state.specs.Clock.{times_of}
use Rattle.snapshot.specs.Snapshot.{Stats, Refused, snapshot_fault, stats_of, snapshot_of, snapshot_refusal, figures, snapshot_numbers}
use Rattle.report.specs.Counters.{move_fault, trivial_move_of, outcome_fault, outcome_of}
use Rattle.governor_promises.specs.Reading.{Observation, sampled, counted}
use Rattle.governor_promises.specs.Calls.{Action, observe, move, outcome, choose, focus, snapshot, answer_of, acted}

-- what a call says: whether it was accepted, and the state after it
abbrev pub Says : (Bool → GovernorState → Type 0) → Observed → Type 0
Says P r = P (eqb r.refusal none) r.state

pub by-fault : (P : Bool → GovernorState → Type 0) (fault : ℕ) (old new : GovernorState) → P true new → P false old → Says P (answered fault old new)
by-fault P fault old new p q = elim (eqb fault none) as (λ b. P b (cond b new old)) [ true ↦ p | false ↦ q ]

-- a call that leaves the state as it is, whatever it answers
pub by-same : (P : Bool → GovernorState → Type 0) (fault : ℕ) (s : GovernorState) → P true s → P false s → Says P (record { refusal = fault; state = s })
by-same P fault s p q = elim (eqb fault none) as (λ b. P b s) [ true ↦ p | false ↦ q ]

-- the state after an accepted observation
abbrev pub new_of : Tuning → GovernorState → ℕ → Observation → GovernorState
new_of G s now (sampled x) = accepted_of G s s.window now x
new_of G s now (counted e a) = accepted_of G s (window_of a) now (sample_of s e a)

pub by_answer : (P : Bool → GovernorState → Type 0) (G : Tuning) (s : GovernorState) (now : ℕ) (o : Observation) → P true (new_of G s now o) → P false s → Says P (answer_of G s now o)
unfolding observed_of engine_of
by_answer P G s now (sampled x) = by-fault P (observe_fault G s now x) s _
by_answer P G s now (counted e a) = by-fault P (engine_fault G s now e a) s _

abbrev Kept : GovernorState → Bool → GovernorState → Type 0
Kept s b t = (T b → ⊥) → t ≡ s

kept : (G : Tuning) (s : GovernorState) (a : Action) → Says (Kept s) (acted G s a)
unfolding trivial_move_of outcome_of
kept G s (observe now o) = by_answer (Kept s) G s now o (λ n. absurd (n tt)) (λ _. refl)
kept G s (move bytes) = by-fault (Kept s) (move_fault s) s _ (λ n. absurd (n tt)) (λ _. refl)
kept G s (outcome predicted actual) = by-fault (Kept s) (outcome_fault s predicted actual) s _ (λ n. absurd (n tt)) (λ _. refl)
kept G s (choose kind) = λ n. absurd (n tt)
kept G s (focus f) = λ n. absurd (n tt)
kept G s (snapshot now) = λ n. refl

pub refused_changes_nothing : (G : Tuning) (s : GovernorState) (a : Action) → ¬ ((acted G s a).refusal ≡ none) → (acted G s a).state ≡ s
refused_changes_nothing G s a n = kept G s a (λ t. n (eqb→eq _ none t))

-- a snapshot with no fault answers 0 and its figures, and one with a fault that number and nothing else
module _ (s : GovernorState) (now : ℕ) where
  pub snapshot-figures : snapshot_fault s now ≡ none → snapshot_numbers (snapshot_of s now) ≡ none ∷ figures (stats_of s (times_of s.mode s.times now))
  unfolding snapshot_of
  snapshot-figures e = rw (eq-eqb (snapshot_fault s now) none e)

  pub snapshot-refused : ¬ (snapshot_fault s now ≡ none) → snapshot_numbers (snapshot_of s now) ≡ snapshot_fault s now ∷ []
  unfolding snapshot_of
  snapshot-refused n = rw (ne_eqb (snapshot_fault s now) none n)

  pub snapshot-fault : snapshot_refusal (snapshot_of s now) ≡ snapshot_fault s now
  unfolding snapshot_of
  snapshot-fault = go (snapshot_fault s now) (eqb (snapshot_fault s now) none) refl
    where
      go : (n : ℕ) (b : Bool) → eqb n none ≡ b → snapshot_refusal (cond b (Stats (stats_of s (times_of s.mode s.times now))) (Refused n)) ≡ n
      go n true e = sym (eqb-true n none e)
      go n false e = refl
