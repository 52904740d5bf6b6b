-- A run of any calls on one governor, refused ones among them, and the list of the accepted ones: those that answered 0.
use Rattle.std.specs.Prelude.{ℕ, cond, eqb}
use mathlib.Core.List.{List, [], ◌∷◌, flat_map}
use Rattle.refusals.specs.Refusals.{none}
use Rattle.kinds.specs.declared.mode.GovernorMode.{GovernorMode}
use Rattle.kinds.specs.declared.focus.FocusState.{FocusState}
use Rattle.kinds.specs.declared.kind.CandidateKind.{CandidateKind}
use Rattle.kinds.specs.Tuning.{Tuning}
use Rattle.state.specs.declared.GovernorState.{GovernorState}
use Rattle.state.specs.State.{Observed, focused_of}
use Rattle.governor.specs.Observe.{observed_of}
use Rattle.engine.specs.Engine.{engine_of}
use Rattle.report.specs.Counters.{chosen_of, trivial_move_of, outcome_of}
use Rattle.snapshot.specs.Snapshot.{snapshot_of, snapshot_refusal}
use Rattle.governor_promises.specs.Reading.{Observation, sampled, counted}

-- an observation, at a clock reading; a trivial move, with the bytes that it avoided; an outcome, predicted and actual bytes;
-- a candidate chosen; a focus set; a snapshot, at a clock reading
pub data Action : Type 0 where
  observe : ℕ → Observation → Action
  move : ℕ → Action
  outcome : ℕ → ℕ → Action
  choose : CandidateKind → Action
  focus : FocusState → Action
  snapshot : ℕ → Action

-- each call of a run
abbrev pub EachCall : (Action → Type 0) → List Action → Type 0
EachCall P [] = Unit {0}
EachCall P (a ∷ l) = P a × EachCall P l

abbrev pub answer_of : Tuning → GovernorState → ℕ → Observation → Observed
answer_of G s now (sampled x) = observed_of G s now x
answer_of G s now (counted e a) = engine_of G s now e a

-- a choice and a focus refuse nothing; a snapshot leaves the state as it is, refused or not
abbrev pub acted : Tuning → GovernorState → Action → Observed
acted G s (observe now o) = answer_of G s now o
acted G s (move bytes) = trivial_move_of s bytes
acted G s (outcome predicted actual) = outcome_of s predicted actual
acted G s (choose kind) = record { refusal = none; state = chosen_of s kind }
acted G s (focus f) = record { refusal = none; state = focused_of s f }
acted G s (snapshot now) = record { refusal = snapshot_refusal (snapshot_of s now); state = s }

-- the state after a run
unfoldable pub after : Tuning → GovernorState → List Action → GovernorState
after G s [] = s
after G s (a ∷ l) = after G (acted G s a).state l

-- the mode after each call
unfoldable pub modes : Tuning → GovernorState → List Action → List GovernorMode
modes G s [] = []
modes G s (a ∷ l) = (acted G s a).state.mode ∷ modes G (acted G s a).state l

unfoldable pub accepted : Tuning → GovernorState → List Action → List Action
accepted G s [] = []
accepted G s (a ∷ l) =
    let r = acted G s a in
    cond (eqb r.refusal none) (a ∷ accepted G r.state l) (accepted G r.state l)

-- what a call observes: one observation, or none
abbrev pub observed : Action → List Observation
observed (observe now o) = o ∷ []
observed (move bytes) = []
observed (outcome predicted actual) = []
observed (choose kind) = []
observed (focus f) = []
observed (snapshot now) = []

-- the accepted observations of a run
abbrev pub observations : Tuning → GovernorState → List Action → List Observation
observations G s l = flat_map observed (accepted G s l)
