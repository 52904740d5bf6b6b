-- Decisions added one by one, and the last of them with their sequences. Definitions only.
use Rattle.std.specs.Prelude.{ℕ, suc, ◌-◌, ◌^◌, min, List, [], ◌∷◌, ◌++◌, length, drop}
use Rattle.decisions.specs.declared.SchedulingDecision.{SchedulingDecision}
use Rattle.decision_log.specs.declared.DecisionLog.{DecisionLog}
use Rattle.decisions.specs.Decision.{decision_words}
use Rattle.decision_log.specs.Log.{empty_log}
use Rattle.recording.specs.Recording.{numbered, recorded_of, recorded_words}

-- a log beside its words
pub record Logged : Type 0 where
  pub log : DecisionLog
  pub words : List ℕ

abbrev pub started : List ℕ → Logged
started ws = record { log = empty_log; words = ws }

abbrev pub added : Logged → SchedulingDecision → Logged
added s d = record { log = (recorded_of s.log (length s.words)).log; words = recorded_words s.log s.words d }

-- what the additions leave, and the refusal of each
unfoldable pub run : Logged → List SchedulingDecision → Logged
run s [] = s
run s (d ∷ ds) = run (added s d) ds

unfoldable pub refusals : Logged → List SchedulingDecision → List ℕ
refusals s [] = []
refusals s (d ∷ ds) = (recorded_of s.log (length s.words)).refusal ∷ refusals (added s d) ds

-- the i-th from the front has the sequence i, up to the top
unfoldable pub numbered_from : ℕ → List SchedulingDecision → List SchedulingDecision
numbered_from i [] = []
numbered_from i (d ∷ ds) = numbered d (min i (2 ^ 64 - 1)) ∷ numbered_from (suc i) ds

abbrev pub last_of : ℕ → List SchedulingDecision → List SchedulingDecision
last_of n ds = drop (length ds - n) ds

unfoldable pub joined : List SchedulingDecision → List ℕ
joined [] = []
joined (d ∷ ds) = decision_words d ++ joined ds
