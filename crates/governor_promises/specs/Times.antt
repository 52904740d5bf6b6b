-- What the times have to say of a run: the highest reading seen, and what 3 may be given for beside a time.
use Rattle.std.specs.Prelude.{ℕ, ◌-◌, ◌^◌, ◌<◌, max, Bool, false, ◌||◌, List, [], ◌∷◌, ltb}
use Rattle.kinds.specs.Tuning.{Tuning}
use Rattle.state.specs.declared.GovernorState.{GovernorState}
use Rattle.state.specs.State.{full, fresh_of}
use Rattle.windows.specs.Windows.{probed_sum}
use Rattle.governor.specs.Observe.{switches_full}
use Rattle.engine.specs.Engine.{sample_of}
use Rattle.governor_promises.specs.Reading.{sampled, counted}
use Rattle.governor_promises.specs.Calls.{Action, observe, move, outcome, choose, focus, snapshot}
use Rattle.governor_promises.specs.Counts.{gathered}

-- what a call adds to the readings seen: an observation its own, a snapshot none
abbrev pub reading : Action → List ℕ
reading (observe now o) = now ∷ []
reading (move bytes) = []
reading (outcome predicted actual) = []
reading (choose kind) = []
reading (focus f) = []
reading (snapshot now) = []

unfoldable pub highest_of : List ℕ → ℕ
highest_of [] = 0
highest_of (n ∷ ns) = max n (highest_of ns)

-- of the start and the readings of the accepted observations
abbrev pub highest : Tuning → ℕ → List Action → ℕ
highest G start l = highest_of (start ∷ gathered reading G (fresh_of start) l)

-- a reading is handed in as a u64
abbrev pub ReadingFits : Action → Type 0
ReadingFits (observe now o) = now < 2 ^ 64
ReadingFits (move bytes) = Unit {0}
ReadingFits (outcome predicted actual) = Unit {0}
ReadingFits (choose kind) = Unit {0}
ReadingFits (focus f) = Unit {0}
ReadingFits (snapshot now) = now < 2 ^ 64

-- a call's test for 3, its time left out
abbrev pub full_beside_time : Tuning → GovernorState → Action → Bool
full_beside_time G s (observe now (sampled x)) = switches_full G s x
full_beside_time G s (observe now (counted e a)) = ltb (2 ^ 64 - 1) (probed_sum a) || switches_full G s (sample_of s e a)
full_beside_time G s (move bytes) = full s.counters.trivial_moves_performed
full_beside_time G s (outcome predicted actual) = full s.counters.predicted_actual_samples
full_beside_time G s (choose kind) = false
full_beside_time G s (focus f) = false
full_beside_time G s (snapshot now) = false
