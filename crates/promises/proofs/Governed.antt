-- A governor that was fresh, after any run of calls: its next observation, and the round after it.
use Prim.Native.Nat.{ℕ}
use mathlib.Core.Path.{◌≡◌, sym, subst}
use mathlib.Core.Logic.{◌⊎◌, inl, inr, ⊎_elim}
use mathlib.Core.List.Memᴰ
use mathlib.Core.List.{List, [], ◌∷◌, ◌++◌, Memᴰ}
use Rattle.refusals.specs.Refusals.{none, bad_state, too_large, counter_full}
use Rattle.refusals.specs.Checks.{fault_in}
use Rattle.kinds.specs.Tuning.{source}
use Rattle.state.specs.declared.GovernorState.{GovernorState}
use Rattle.state.specs.State.{fresh_of}
use Rattle.governor.specs.Observe.{observe_checks, observe_fault, observed_of}
use Rattle.engine.specs.Engine.{engine_checks, engine_fault, engine_of}
use Rattle.governor_promises.specs.Reading.{Observation, sampled, counted}
use Rattle.governor_promises.specs.Calls.{Action, observe, answer_of, after, observations}
use Rattle.promises.specs.Vector.{InUnits, NoneBelow}
use Rattle.promises.specs.Round.{RoundInput, Governed}
use Rattle.governor_promises.proofs.Sound.{source_never_bad_state}
use Rattle.promises.proofs.Vector.{source_vector_in_unit}
use Rattle.promises.proofs.Round.{round}

given : (s : GovernorState) (now : ℕ) (o : Observation) → Memᴰ (answer_of source s now o).refusal (none ∷ bad_state ∷ too_large ∷ counter_full ∷ [])
unfolding observed_of observe_fault engine_of engine_fault
given s now (sampled x) = fault_in (observe_checks source s now x)
given s now (counted e a) = fault_in (engine_checks source s now e a)

pub governed_round : (clock : ℕ) (l : List Action) (now : ℕ) (o : Observation) (r : RoundInput) → let run = l ++ observe now o ∷ [] in
    NoneBelow (observations source (fresh_of clock) run) → r.state ≡ after source (fresh_of clock) run → Governed (answer_of source (after source (fresh_of clock) l) now o) r
governed_round clock l now o r n e =
    let s = after source (fresh_of clock) l in
    record {
      observation = go (Memᴰ.cases_cons (given s now o)) (source_never_bad_state clock l (observe now o));
      round = round r (subst (λ (t : GovernorState). InUnits t.signals.pressure_vector) (sym e) (source_vector_in_unit clock (l ++ observe now o ∷ []) n));
    }
  where
    go : {m : ℕ} → (m ≡ none) ⊎ Memᴰ m (bad_state ∷ too_large ∷ counter_full ∷ []) → ¬ (m ≡ bad_state) → Memᴰ m (none ∷ too_large ∷ counter_full ∷ [])
    go (inl h) b = Memᴰ.head h
    go (inr h) b = ⊎_elim (λ k. absurd (b k)) (λ k. Memᴰ.tail k) (Memᴰ.cases_cons h)
