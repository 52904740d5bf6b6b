-- What no fault of adding says.
use Rattle.std.specs.Prelude.{◌≡◌, ℕ, [], ◌∷◌}
use Rattle.refusals.specs.Refusals.{◌gives◌, none, bad_log}
use Rattle.refusals.specs.Checks.{none_found}
use Rattle.decision_log.specs.declared.DecisionLog.{DecisionLog}
use Rattle.decision_log.specs.Log.{log_bad}
use Rattle.decision_log.specs.Log.Sound.{Sound, is_sound}
use Rattle.recording.specs.Recording.{record_fault}

pub record_sound : (g : DecisionLog) (n : ℕ) → record_fault g n ≡ none → Sound g n
unfolding record_fault
record_sound g n e = is_sound g n (none_found (log_bad g n gives bad_log ∷ []) tt e).0
