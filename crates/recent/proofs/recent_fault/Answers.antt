-- `recent::recent_fault` meets its contract.
use Rattle.std.proofs.Common.{sym, ◌∙◌, arith}
use Rattle.decision_log.specs.Log.Sound.{is_sound}
use Rattle.recent.proofs.recent_fault.Goals as goal

pub overflow_mul-log : goal.overflow_mul-log
overflow_mul-log c = let s = is_sound _ _ (sym c.log_bad.ensures ∙ c.if-log_bad.false) in omega arith
