-- A run of calls on one governor's words: each call as its contract has it, what it answers, and the words after it. Definitions only.
use Rattle.std.specs.Prelude.{ℕ, ◌-◌, ◌^◌, ◌≤◌, List, [], ◌∷◌, get_or}
use Rattle.kinds.specs.declared.kind.CandidateKind.{CandidateKind}
use Rattle.kinds.specs.declared.kind.CandidateKind.TheVariants.{L0, LevelBatch, TrivialMove}
use Rattle.kinds.specs.Tuning.{source}
use Rattle.state.specs.declared.GovernorState.{GovernorState}
use Rattle.state.specs.State.{Observed}
use Rattle.state.specs.Clock.{total_of}
use Rattle.governor.specs.Observe.{observed_of}
use Rattle.engine.specs.Engine.{engine_of}
use Rattle.report.specs.Counters.{trivial_move_of, outcome_of}
use Rattle.snapshot.specs.Snapshot.{snapshot_of, snapshot_refusal}
use Rattle.governor_promises.specs.Reading.{sampled, counted}
use Rattle.governor_promises.specs.Calls.{Action, observe, move, outcome, choose, focus, snapshot, acted}
use Rattle.state_words.specs.StateWords.{state_in, focus_flag, focus_level, refusal_of, words_after}
use Rattle.answer_words.specs.AnswerWords.{reading_words}
use Rattle.coinhamper.specs.Governed.{chosen_by, focused_by}

-- a kind as the three numbers that are handed in
abbrev pub kind_case : CandidateKind → ℕ
kind_case L0 = 1
kind_case (LevelBatch level n) = 2
kind_case (TrivialMove level) = 3

abbrev pub kind_level : CandidateKind → ℕ
kind_level L0 = 0
kind_level (LevelBatch level n) = level
kind_level (TrivialMove level) = level

abbrev pub kind_length : CandidateKind → ℕ
kind_length L0 = 0
kind_length (LevelBatch level n) = n
kind_length (TrivialMove level) = 0

-- what a call that writes says of the state in the words
abbrev pub said_of : GovernorState → Action → Observed
said_of s (observe now (sampled x)) = observed_of source s now x
said_of s (observe now (counted e a)) = engine_of source s now e a
said_of s (move bytes) = trivial_move_of s bytes
said_of s (outcome predicted actual) = outcome_of s predicted actual
said_of s (choose kind) = chosen_by s (kind_case kind) (kind_level kind) (kind_length kind)
said_of s (focus f) = focused_by s (focus_flag f.current_focus) (focus_level f.current_focus) f.streak
said_of s (snapshot now) = record { refusal = snapshot_refusal (snapshot_of s now); state = s }

-- a call's number, and the words after it; a snapshot only reads them
abbrev pub refusal_on : List ℕ → Action → ℕ
refusal_on ws a = refusal_of ws (said_of (state_in ws) a)

abbrev pub words_on : List ℕ → Action → List ℕ
words_on ws (observe now o) = words_after ws (said_of (state_in ws) (observe now o))
words_on ws (move bytes) = words_after ws (said_of (state_in ws) (move bytes))
words_on ws (outcome predicted actual) = words_after ws (said_of (state_in ws) (outcome predicted actual))
words_on ws (choose kind) = words_after ws (said_of (state_in ws) (choose kind))
words_on ws (focus f) = words_after ws (said_of (state_in ws) (focus f))
words_on ws (snapshot now) = ws

-- ---- a run: the words after it, and the number of each call

unfoldable pub words_run : List ℕ → List Action → List ℕ
words_run ws [] = ws
words_run ws (a ∷ l) = words_run (words_on ws a) l

unfoldable pub refusals_run : List ℕ → List Action → List ℕ
refusals_run ws [] = []
refusals_run ws (a ∷ l) = refusal_on ws a ∷ refusals_run (words_on ws a) l

-- the numbers of the same run on states
unfoldable pub refusals : GovernorState → List Action → List ℕ
refusals s [] = []
refusals s (a ∷ l) = (acted source s a).refusal ∷ refusals (acted source s a).state l

-- level and streak are handed in as u32
abbrev pub Handed : Action → Type 0
Handed (observe now o) = Unit {0}
Handed (move bytes) = Unit {0}
Handed (outcome predicted actual) = Unit {0}
Handed (choose kind) = Unit {0}
Handed (focus f) = (focus_level f.current_focus ≤ 2 ^ 32 - 1) × (f.streak ≤ 2 ^ 32 - 1)
Handed (snapshot now) = Unit {0}

-- what the times in the words come to
abbrev pub total_read : List ℕ → ℕ
total_read ws = total_of (state_in ws).times

-- the mode that `coinhamper_read` answers
abbrev pub mode_read : List ℕ → ℕ
mode_read ws = get_or (reading_words (state_in ws)) 0 0
