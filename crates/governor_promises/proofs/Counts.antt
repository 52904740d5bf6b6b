-- Counts are not invented: after any run from a fresh governor, each counter is read off the accepted calls, and the switches off the modes.
use Prim.Native.Nat.{ℕ, ◌+◌, ◌-◌, ◌^◌, min}
use native.Mathlib.Omega.{arith}
use mathlib.Core.Path.{◌≡◌, refl, ap, ◌∙◌}
use mathlib.Core.Bool.{Bool, true, false, cond}
use mathlib.Core.List.{List, [], ◌∷◌, ◌++◌, flat_map}
use lib.Dec.{eqb}
use lib.Ieee.{Float, add, binary64}
use lib.ListN.{length, length-append}
use Rattle.arith.specs.Floats.{f0}
use Rattle.refusals.specs.Refusals.{none}
use Rattle.state.specs.declared.GovernorState.{GovernorState}
use Rattle.kinds.specs.declared.mode.GovernorMode.{GovernorMode}
use Rattle.kinds.specs.declared.mode.GovernorMode.TheVariants.{Balanced, ReadProtect, WriteEmergency}
use Rattle.state.specs.declared.Counters.{Counters}
use Rattle.kinds.specs.declared.kind.CandidateKind.TheVariants.{L0, LevelBatch, TrivialMove}
use Rattle.kinds.specs.Tuning.{Tuning}
use Rattle.sound.specs.Sound.{differ}
use Rattle.state.specs.State.{fresh_of}
use Rattle.governor.specs.Observe.{switches, accepted_of}
use Rattle.engine.specs.Engine.{sample_of}
use Rattle.report.specs.Counters.{chosen_of, move_fault, trivial_move_of, outcome_fault, outcome_of}
use Rattle.snapshot.specs.Snapshot.{snapshot_of, snapshot_refusal}
use Rattle.governor_promises.specs.Reading.{Observation, sampled, counted}
use Rattle.governor_promises.specs.Calls.{Action, observe, move, outcome, choose, focus, snapshot, acted, after, modes, accepted}
use Rattle.governor_promises.specs.Counts.{gathered, bytes_avoided, batch_length, outcome_error, sum_of, added_to, changes}
use Rattle.governor_promises.proofs.Answers.{Says, by-fault, by-same, new_of, by_answer}

-- ---- lists

-- what one call has of something: nothing if it was refused
abbrev pub one : {A : Type 0} → (Action → List A) → Bool → Action → List A
one has b a = cond b (has a) []

pub gather_one : {A : Type 0} (has : Action → List A) (b : Bool) (a : Action) (l : List Action) → flat_map has (cond b (a ∷ l) l) ≡ one has b a ++ flat_map has l
unfolding flat_map
gather_one has true a l = refl
gather_one has false a l = refl

length-one : {A : Type 0} (has : Action → List A) (b : Bool) (a : Action) (l : List Action) → length (flat_map has (cond b (a ∷ l) l)) ≡ length (one has b a) + length (flat_map has l)
length-one has b a l = ap length (gather_one has b a l) ∙ length-append (one has b a) (flat_map has l)

sum-append : (xs ys : List ℕ) → sum_of (xs ++ ys) ≡ sum_of xs + sum_of ys
unfolding sum_of
sum-append [] ys = omega arith
sum-append (x ∷ xs) ys = omega (arith, sum-append xs ys)

sum_one : (has : Action → List ℕ) (b : Bool) (a : Action) (l : List Action) → sum_of (flat_map has (cond b (a ∷ l) l)) ≡ sum_of (one has b a) + sum_of (flat_map has l)
sum_one has b a l = ap sum_of (gather_one has b a l) ∙ sum-append (one has b a) (flat_map has l)

added-append : (x : Float) (xs ys : List Float) → added_to x (xs ++ ys) ≡ added_to (added_to x xs) ys
unfolding added_to
added-append x [] ys = refl
added-append x (y ∷ xs) ys = added-append (add binary64 x y) xs ys

-- ---- one call

abbrev Tally : Counters → ℕ → ℕ → ℕ → ℕ → ℕ → ℕ → Type 0
Tally c switches moves bytes batches lengths samples =
    (c.mode_switches ≡ switches)
    × (c.trivial_moves_performed ≡ moves)
    × (c.trivial_move_bytes_avoided ≡ min bytes (2 ^ 64 - 1))
    × (c.batch_size_count ≡ min batches (2 ^ 64 - 1))
    × (c.batch_size_sum ≡ min lengths (2 ^ 64 - 1))
    × (c.predicted_actual_samples ≡ samples)

raised : (b : Bool) (n : ℕ) → cond b (n + 1) n ≡ n + cond b 1 0
raised true n = refl
raised false n = omega arith

same-mode : (m : GovernorMode) → cond {A = ℕ} (differ m m) 1 0 ≡ 0
same-mode Balanced = refl
same-mode ReadProtect = refl
same-mode WriteEmergency = refl

module _ (G : Tuning) where
  module _ (s : GovernorState) (i j k n m o : ℕ) (h : Tally s.counters i j k n m o) where
    abbrev Next : Action → Bool → GovernorState → Type 0
    Next a b t =
        Tally t.counters (i + cond (differ s.mode t.mode) 1 0) (j + length (one bytes_avoided b a)) (k + sum_of (one bytes_avoided b a)) (n + length (one batch_length b a))
        (m + sum_of (one batch_length b a)) (o + length (one outcome_error b a))

    observes : (now : ℕ) (x : Observation) → Next (observe now x) true (new_of G s now x)
    unfolding accepted_of sum_of
    observes now (sampled x) = omega (arith, raised (switches G s x) s.counters.mode_switches)
    observes now (counted e a) = omega (arith, raised (switches G s (sample_of s e a)) s.counters.mode_switches)

    still : cond {A = ℕ} (differ s.mode s.mode) 1 0 ≡ 0
    still = same-mode s.mode

    next : (a : Action) → Says (Next a) (acted G s a)
    unfolding trivial_move_of outcome_of chosen_of sum_of
    next (observe now x) = by_answer (Next (observe now x)) G s now x (observes now x) (omega (arith, still))
    next (move bytes) = by-fault (Next (move bytes)) (move_fault s) s _ (omega (arith, still)) (omega (arith, still))
    next (outcome predicted actual) =
        by-fault (Next (outcome predicted actual)) (outcome_fault s predicted actual) s _ (omega (arith, still)) (omega (arith, still))
    next (choose L0) = omega (arith, still)
    next (choose (LevelBatch level size)) = omega (arith, still)
    next (choose (TrivialMove level)) = omega (arith, still)
    next (focus f) = omega (arith, still)
    next (snapshot now) =
        by-same (Next (snapshot now)) (snapshot_refusal (snapshot_of s now)) s (omega (arith, still)) (omega (arith, still))

  abbrev errors : GovernorState → Float
  errors s = s.counters.predicted_actual_abs_pct_error_sum

  module _ (s : GovernorState) where
    abbrev Erred : Action → Bool → GovernorState → Type 0
    Erred a b t = errors t ≡ added_to (errors s) (one outcome_error b a)

    erred : (a : Action) → Says (Erred a) (acted G s a)
    unfolding accepted_of trivial_move_of outcome_of chosen_of added_to
    erred (observe now (sampled x)) = by_answer (Erred (observe now (sampled x))) G s now (sampled x) refl refl
    erred (observe now (counted e a)) = by_answer (Erred (observe now (counted e a))) G s now (counted e a) refl refl
    erred (move bytes) = by-fault (Erred (move bytes)) (move_fault s) s _ refl refl
    erred (outcome predicted actual) = by-fault (Erred (outcome predicted actual)) (outcome_fault s predicted actual) s _ refl refl
    erred (choose L0) = refl
    erred (choose (LevelBatch level size)) = refl
    erred (choose (TrivialMove level)) = refl
    erred (focus f) = refl
    erred (snapshot now) = by-same (Erred (snapshot now)) (snapshot_refusal (snapshot_of s now)) s refl refl

  -- ---- a run

  all : (s : GovernorState) (l : List Action) (i j k n m o : ℕ) → Tally s.counters i j k n m o
      → Tally (after G s l).counters (i + changes s.mode (modes G s l)) (j + length (gathered bytes_avoided G s l)) (k + sum_of (gathered bytes_avoided G s l))
      (n + length (gathered batch_length G s l)) (m + sum_of (gathered batch_length G s l)) (o + length (gathered outcome_error G s l))
  unfolding after modes accepted flat_map changes sum_of
  all s [] i j k n m o h = omega arith
  all s (a ∷ l) i j k n m o h =
      let t = (acted G s a).state in
      let b = eqb (acted G s a).refusal none in
      omega (
        arith,
        all t l _ _ _ _ _ _ (next s i j k n m o h a),
        length-one bytes_avoided b a (accepted G t l),
        sum_one bytes_avoided b a (accepted G t l),
        length-one batch_length b a (accepted G t l),
        sum_one batch_length b a (accepted G t l),
        length-one outcome_error b a (accepted G t l),
      )

  all-errors : (s : GovernorState) (l : List Action) → errors (after G s l) ≡ added_to (errors s) (gathered outcome_error G s l)
  unfolding after accepted flat_map added_to
  all-errors s [] = refl
  all-errors s (a ∷ l) =
      let t = (acted G s a).state in
      let b = eqb (acted G s a).refusal none in
      all-errors t l ∙ rw (erred s a, gather_one outcome_error b a (accepted G t l), added-append)

  module _ (clock : ℕ) (l : List Action) where
    abbrev ended : Counters
    ended = (after G (fresh_of clock) l).counters

    abbrev list : {A : Type 0} → (Action → List A) → List A
    list has = gathered has G (fresh_of clock) l

    tally : Tally ended (changes Balanced (modes G (fresh_of clock) l)) (length (list bytes_avoided)) (sum_of (list bytes_avoided)) (length (list batch_length)) (sum_of (list batch_length)) (length (list outcome_error))
    tally = omega (arith, all (fresh_of clock) l 0 0 0 0 0 0 (omega arith))

    -- exact: a call that would pass the largest u64 is refused
    pub switches-counted : ended.mode_switches ≡ changes Balanced (modes G (fresh_of clock) l)
    switches-counted = tally.0

    pub moves-counted : ended.trivial_moves_performed ≡ length (list bytes_avoided)
    moves-counted = tally.1

    pub samples_counted : ended.predicted_actual_samples ≡ length (list outcome_error)
    samples_counted = tally.5

    -- exact up to the largest u64, where they stay
    pub bytes_summed : ended.trivial_move_bytes_avoided ≡ min (sum_of (list bytes_avoided)) (2 ^ 64 - 1)
    bytes_summed = tally.2

    pub batches-counted : ended.batch_size_count ≡ min (length (list batch_length)) (2 ^ 64 - 1)
    batches-counted = tally.3

    pub lengths_summed : ended.batch_size_sum ≡ min (sum_of (list batch_length)) (2 ^ 64 - 1)
    lengths_summed = tally.4

    -- a float: the errors are added up as they came
    pub errors_summed : ended.predicted_actual_abs_pct_error_sum ≡ added_to f0 (list outcome_error)
    errors_summed = all-errors (fresh_of clock) l
