-- The kept decisions read back: what is refused, and the words written to a buffer. Definitions only.
pub mod Sound
use Rattle.std.specs.Prelude.{ℕ, ◌*◌, cond, List, [], ◌∷◌, ◌++◌, length, drop, ltb, eqb}
use Rattle.refusals.specs.Refusals.{◌gives◌, first_fault, none, bad_log, no_room}
use Rattle.decisions.specs.Decision.{decision_width}
use Rattle.decision_log.specs.declared.DecisionLog.{DecisionLog}
use Rattle.decision_log.specs.Log.{log_bad, kept_words}

-- 10, 9
unfoldable pub recent_fault : DecisionLog → ℕ → ℕ → ℕ
recent_fault g n room = first_fault (log_bad g n gives bad_log ∷ ltb room (decision_width * g.count) gives no_room ∷ [])

-- its refusal, and how many decisions were written
pub record Recent : Type 0 where
  pub refusal : ℕ
  pub count : ℕ

unfoldable pub recent_of : DecisionLog → ℕ → ℕ → Recent
recent_of g n room = record { refusal = recent_fault g n room; count = cond (eqb (recent_fault g n room) none) g.count 0 }

unfoldable pub recent_out : DecisionLog → List ℕ → List ℕ → List ℕ
recent_out g ws out = cond (eqb (recent_fault g (length ws) (length out)) none) (kept_words g ws ++ drop (decision_width * g.count) out) out
