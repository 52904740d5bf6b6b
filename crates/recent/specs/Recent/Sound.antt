-- A reading that is not refused: what that says of the log and the room, and what is read.
use Rattle.std.specs.Prelude.{◌≡◌, ℕ, ◌*◌, ◌≤◌, false, List, [], ◌∷◌, ◌++◌, length, drop, ltb}
use Rattle.std.proofs.Common.{le-ltb, ltb-false}
use Rattle.refusals.specs.Refusals.{◌gives◌, none, bad_log, no_room}
use Rattle.refusals.specs.Checks.{none_found}
use Rattle.decisions.specs.Decision.{decision_width}
use Rattle.decision_log.specs.declared.DecisionLog.{DecisionLog}
use Rattle.decision_log.specs.Log.{log_bad, kept_words}
use Rattle.decision_log.specs.Log.Sound.{Sound, is_sound}
use Rattle.recent.specs.Recent.{recent_fault, recent_of, recent_out}

pub recent_sound : (g : DecisionLog) (n room : ℕ) → recent_fault g n room ≡ none → Sound g n × (decision_width * g.count ≤ room)
unfolding recent_fault
recent_sound g n room e =
    let f = none_found (log_bad g n gives bad_log ∷ ltb room (decision_width * g.count) gives no_room ∷ []) tt e in
    (is_sound g n f.0, ltb-false room (decision_width * g.count) f.1.0)

pub good-read : (g : DecisionLog) (ws out : List ℕ) → log_bad g (length ws) ≡ false → decision_width * g.count ≤ length out
    → (recent_of g (length ws) (length out) ≡ record { refusal = none; count = g.count })
    × (recent_out g ws out ≡ kept_words g ws ++ drop (decision_width * g.count) out)
unfolding recent_fault recent_of recent_out
good-read g ws out e r =
    let f : recent_fault g (length ws) (length out) ≡ none = rw (e, le-ltb (length out) (decision_width * g.count) r) in
    (rw f, rw f)
