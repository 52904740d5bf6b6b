-- The three times add up to the highest reading seen minus the start, whatever the clock does; so from a fresh governor no call finds a time full.
use Prim.Native.Nat.{ℕ, ◌+◌, ◌-◌, ◌^◌, ◌≤◌, ◌<◌, max}
use native.Mathlib.Omega.{arith}
use mathlib.Core.Path.{◌≡◌, refl, ap, ◌∙◌}
use mathlib.Core.Bool.{Bool, true, false, cond, ◌&&◌}
use mathlib.Core.List.{List, [], ◌∷◌, ◌++◌, flat_map}
use lib.Dec.{T, ltb, eqb}
use borrow.Author.Tests.{le-ltb}
use Rattle.lists.specs.Any.{any_of}
use Rattle.lists.specs.Tests.{neither}
use Rattle.refusals.specs.Refusals.{Check, first_fault, none, counter_full}
use Rattle.refusals.specs.Checks.{never_gives}
use Rattle.kinds.specs.declared.mode.GovernorMode.{GovernorMode}
use Rattle.kinds.specs.declared.mode.GovernorMode.TheVariants.{Balanced, ReadProtect, WriteEmergency}
use Rattle.kinds.specs.declared.kind.CandidateKind.TheVariants.{L0, LevelBatch, TrivialMove}
use Rattle.kinds.specs.Tuning.{Tuning}
use Rattle.state.specs.declared.GovernorState.{GovernorState}
use Rattle.state.specs.declared.Times.{Times}
use Rattle.state.specs.State.{fresh_of}
use Rattle.state.specs.Clock.{kept_of, time_in, total_of, time_up_to, times_of}
use Rattle.state.specs.Clock.Exact.{total_adds}
use Rattle.governor.specs.Observe.{switches_full, counters_full, accepted_of, observe_checks, observe_fault, observed_of}
use Rattle.windows.specs.Windows.{probed_sum}
use Rattle.engine.specs.Engine.{sample_of, engine_checks, engine_fault, engine_of}
use Rattle.report.specs.Counters.{chosen_of, move_checks, move_fault, trivial_move_of, outcome_checks, outcome_fault, outcome_of}
use Rattle.snapshot.specs.Snapshot.{snapshot_checks, snapshot_fault, snapshot_of, snapshot_refusal}
use Rattle.governor_promises.specs.Reading.{Observation, sampled, counted}
use Rattle.governor_promises.specs.Calls.{Action, observe, move, outcome, choose, focus, snapshot, EachCall, acted, after, accepted}
use Rattle.governor_promises.specs.Counts.{gathered}
use Rattle.governor_promises.specs.Times.{reading, highest_of, highest, ReadingFits, full_beside_time}
use Rattle.governor_promises.proofs.Answers.{Says, by-fault, by-same, new_of, by_answer, snapshot-fault}
use Rattle.governor_promises.proofs.Counts.{one, gather_one}

-- ---- the highest of a list

highest-append : (xs ys : List ℕ) → highest_of (xs ++ ys) ≡ max (highest_of xs) (highest_of ys)
unfolding highest_of
highest-append [] ys = omega arith
highest-append (x ∷ xs) ys = omega (arith, highest-append xs ys)

highest-one : (b : Bool) (a : Action) (l : List Action) → highest_of (flat_map reading (cond b (a ∷ l) l)) ≡ max (highest_of (one reading b a)) (highest_of (flat_map reading l))
highest-one b a l = ap highest_of (gather_one reading b a l) ∙ highest-append (one reading b a) (flat_map reading l)

-- a list gives 3 only where a test for 3 has found it
only : (cs : List Check) (b : Bool) → (b ≡ false → any_of (λ c. eqb c.number counter_full && c.found) cs ≡ false) → first_fault cs ≡ counter_full → T b
only cs true q e = tt
only cs false q e = absurd (never_gives counter_full cs (λ z. omega arith) (q refl) e)

-- ---- the times

-- since a start: what they come to, and the kept reading
abbrev Adds : ℕ → ℕ → Times → Type 0
Adds start high t = (total_of t + start ≡ high) × (t.last_transition ≡ high) × (high < 2 ^ 64)

adds_same : (start : ℕ) (t : Times) (x y : ℕ) → x ≡ y → Adds start x t → Adds start y t
adds_same start t x y e h = rw (← e) h

module _ (start high now : ℕ) (m : GovernorMode) (t : Times) (h : Adds start high t) (k : now < 2 ^ 64) where
  part : (n : GovernorMode) → time_in n t ≤ total_of t
  part Balanced = omega arith
  part ReadProtect = omega arith
  part WriteEmergency = omega arith

  fits : time_up_to m t now ≤ 2 ^ 64 - 1
  fits = omega (arith, part m, h.0, h.1, h.2, k)

  keeps : (n : GovernorMode) → (times_of n t now).last_transition ≡ kept_of t now
  unfolding times_of
  keeps Balanced = refl
  keeps ReadProtect = refl
  keeps WriteEmergency = refl

  times_add : Adds start (max high now) (times_of m t now)
  times_add = (omega (arith, total_adds m t now fits, h.0, h.1), omega (arith, keeps m, h.1), omega (arith, h.2, k))

-- ---- a run

module _ (G : Tuning) (start : ℕ) where
  module _ (s : GovernorState) (high : ℕ) (h : Adds start high s.times) where
    abbrev Next : Action → Bool → GovernorState → Type 0
    Next a b t = Adds start (max high (highest_of (one reading b a))) t.times

    still : Adds start (max high 0) s.times
    still = adds_same start s.times high _ (omega arith) h

    observes : (now : ℕ) (o : Observation) → now < 2 ^ 64 → Next (observe now o) true (new_of G s now o)
    unfolding accepted_of highest_of
    observes now (sampled x) k = adds_same start _ (max high now) _ (omega arith) (times_add start high now s.mode s.times h k)
    observes now (counted e a) k = adds_same start _ (max high now) _ (omega arith) (times_add start high now s.mode s.times h k)

    next : (a : Action) → ReadingFits a → Says (Next a) (acted G s a)
    unfolding trivial_move_of outcome_of chosen_of highest_of
    next (observe now o) k = by_answer (Next (observe now o)) G s now o (observes now o k) still
    next (move bytes) k = by-fault (Next (move bytes)) (move_fault s) s _ still still
    next (outcome predicted actual) k = by-fault (Next (outcome predicted actual)) (outcome_fault s predicted actual) s _ still still
    next (choose L0) k = still
    next (choose (LevelBatch level n)) k = still
    next (choose (TrivialMove level)) k = still
    next (focus f) k = still
    next (snapshot now) k = by-same (Next (snapshot now)) (snapshot_refusal (snapshot_of s now)) s still still

  all : (s : GovernorState) (high : ℕ) (l : List Action) → EachCall ReadingFits l → Adds start high s.times → Adds start (max high (highest_of (gathered reading G s l))) (after G s l).times
  unfolding after accepted flat_map highest_of
  all s high [] k h = still s high h
  all s high (a ∷ l) k h =
      let t = (acted G s a).state in
      let b = eqb (acted G s a).refusal none in
      adds_same start _ _ _ (omega (arith, highest-one b a (accepted G t l))) (all t _ l k.1 (next s high h a k.0))

  module _ (start_fits : start < 2 ^ 64) (l : List Action) (readings-fit : EachCall ReadingFits l) where
    abbrev ended : GovernorState
    ended = after G (fresh_of start) l

    added : Adds start (highest G start l) ended.times
    unfolding highest_of
    added = all (fresh_of start) start l readings-fit (omega arith, refl, start_fits)

    pub times_add_up : total_of ended.times + start ≡ highest G start l
    times_add_up = added.0

    -- in nanoseconds, before they are cut to milliseconds
    pub snapshot_adds_up : (now : ℕ) → now < 2 ^ 64 → total_of (times_of ended.mode ended.times now) + start ≡ max (highest G start l) now
    snapshot_adds_up now k = (times_add start (highest G start l) now ended.mode ended.times added k).0

    -- the test for 3 that the observing calls and the snapshot make of a time finds nothing
    pub time_check : (now : ℕ) → now < 2 ^ 64 → ltb (2 ^ 64 - 1) (time_up_to ended.mode ended.times now) ≡ false
    time_check now k = le-ltb (2 ^ 64 - 1) _ (fits start (highest G start l) now ended.mode ended.times added k)

    -- so a call that answers 3 has another sum that is full, and no snapshot answers it
    pub time_never_full : (a : Action) → ReadingFits a → (acted G ended a).refusal ≡ counter_full → T (full_beside_time G ended a)
    unfolding observed_of observe_fault engine_of engine_fault counters_full trivial_move_of outcome_of snapshot_fault any_of
    time_never_full (observe now (sampled x)) k = only (observe_checks G ended now x) (full_beside_time G ended (observe now (sampled x))) (λ e. rw (e, time_check now k))
    time_never_full (observe now (counted e a)) k =
        only (engine_checks G ended now e a) (full_beside_time G ended (observe now (counted e a)))
        (λ f. let parts = neither (ltb (2 ^ 64 - 1) (probed_sum a)) (switches_full G ended (sample_of ended e a)) f in rw (parts.0, parts.1, time_check now k))
    time_never_full (move bytes) k = only (move_checks ended) (full_beside_time G ended (move bytes)) (λ e. rw e)
    time_never_full (outcome predicted actual) k = only (outcome_checks ended predicted actual) (full_beside_time G ended (outcome predicted actual)) (λ e. rw e)
    time_never_full (choose kind) k = λ e. absurd (omega (arith, e))
    time_never_full (focus f) k = λ e. absurd (omega (arith, e))
    time_never_full (snapshot now) k = rw (snapshot-fault ended now) (only (snapshot_checks ended now) false (λ e. rw (time_check now k)))
