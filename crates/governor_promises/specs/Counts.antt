-- What the counters have to say of a run: how many of the accepted calls were of a kind, what those come to, and how often the mode changed.
use Rattle.std.specs.Prelude.{ℕ, ◌+◌, cond, Float}
use mathlib.Core.List.{List, [], ◌∷◌, flat_map}
use Rattle.std.specs.Float.{binary64}
use Rattle.std.specs.Float.Ieee.{add}
use Rattle.kinds.specs.declared.mode.GovernorMode.{GovernorMode}
use Rattle.kinds.specs.declared.kind.CandidateKind.TheVariants.{L0, LevelBatch, TrivialMove}
use Rattle.kinds.specs.Tuning.{Tuning}
use Rattle.state.specs.declared.GovernorState.{GovernorState}
use Rattle.sound.specs.Sound.{differ}
use Rattle.report.specs.Counters.{error_of}
use Rattle.governor_promises.specs.Calls.{Action, observe, move, outcome, choose, focus, snapshot, accepted}

-- what the accepted calls of a run have of something, in order
abbrev pub gathered : {A : Type 0} → (Action → List A) → Tuning → GovernorState → List Action → List A
gathered has G s l = flat_map has (accepted G s l)

-- the bytes that a move avoided
abbrev pub bytes_avoided : Action → List ℕ
bytes_avoided (observe now o) = []
bytes_avoided (move bytes) = bytes ∷ []
bytes_avoided (outcome predicted actual) = []
bytes_avoided (choose kind) = []
bytes_avoided (focus f) = []
bytes_avoided (snapshot now) = []

-- the length of a level batch that was chosen
abbrev pub batch_length : Action → List ℕ
batch_length (observe now o) = []
batch_length (move bytes) = []
batch_length (outcome predicted actual) = []
batch_length (choose L0) = []
batch_length (choose (LevelBatch level n)) = n ∷ []
batch_length (choose (TrivialMove level)) = []
batch_length (focus f) = []
batch_length (snapshot now) = []

-- the error of an outcome
abbrev pub outcome_error : Action → List Float
outcome_error (observe now o) = []
outcome_error (move bytes) = []
outcome_error (outcome predicted actual) = error_of predicted actual ∷ []
outcome_error (choose kind) = []
outcome_error (focus f) = []
outcome_error (snapshot now) = []

unfoldable pub sum_of : List ℕ → ℕ
sum_of [] = 0
sum_of (n ∷ ns) = n + sum_of ns

-- floats are added to a first one as they come
unfoldable pub added_to : Float → List Float → Float
added_to x [] = x
added_to x (y ∷ ys) = added_to (add binary64 x y) ys

-- how often the mode changes along a list, from a mode on
unfoldable pub changes : GovernorMode → List GovernorMode → ℕ
changes m [] = 0
changes m (n ∷ ns) = cond (differ m n) 1 0 + changes n ns
