-- A decision added to the log: what is refused, the log after it, and its words. Definitions only.
pub mod Sound
pub mod Store
pub mod Kept
pub mod Newest
pub mod Run
pub mod Last
use Rattle.std.specs.Prelude.{ℕ, ◌*◌, cond, List, [], ◌∷◌, length, eqb}
use Rattle.std.proofs.lemmas.List.Edits.{sets}
use Rattle.refusals.specs.Refusals.{◌gives◌, first_fault, none, bad_log}
use Rattle.decisions.specs.declared.SchedulingDecision.{SchedulingDecision}
use Rattle.decisions.specs.Decision.{decision_width, decision_words}
use Rattle.decision_log.specs.declared.DecisionLog.{DecisionLog}
use Rattle.decision_log.specs.Log.{log_bad}
use Rattle.next_log.specs.Next.{next_place, next_sequence, next_log}

-- the caller's own number is overwritten
abbrev pub numbered : SchedulingDecision → ℕ → SchedulingDecision
numbered d n =
    record {
      sequence = n;
      pressure = d.pressure;
      dominant = d.dominant;
      tier = d.tier;
      candidates_considered = d.candidates_considered;
      chosen = d.chosen;
      predicted_rewrite_bytes = d.predicted_rewrite_bytes;
      l0_relief = d.l0_relief;
      debt_relief = d.debt_relief;
      read_relief = d.read_relief;
    }

-- ---- `record_decision`

unfoldable pub record_fault : DecisionLog → ℕ → ℕ
record_fault g n = first_fault (log_bad g n gives bad_log ∷ [])

-- its refusal, and the log after it: as it was where it is refused
pub record Recorded : Type 0 where
  pub refusal : ℕ
  pub log : DecisionLog

unfoldable pub recorded_of : DecisionLog → ℕ → Recorded
recorded_of g n = record { refusal = record_fault g n; log = cond (eqb (record_fault g n) none) (next_log g) g }

-- its words, and no other
unfoldable pub recorded_words : DecisionLog → List ℕ → SchedulingDecision → List ℕ
recorded_words g ws d =
    cond (eqb (record_fault g (length ws)) none) (sets ws (decision_width * next_place g) (decision_words (numbered d (next_sequence g)))) ws
