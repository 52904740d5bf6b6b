-- A sound log's next decision has a place.
use Rattle.std.specs.Prelude.{ℕ, ◌<◌, Bool, true, false, cond, ltb}
use Rattle.std.proofs.Common.{arith}
use Rattle.decision_log.specs.declared.DecisionLog.{DecisionLog}
use Rattle.decision_log.specs.Log.{max_kept, kept_place}
use Rattle.decision_log.specs.Log.Sound.{Sound}
use Rattle.next_log.specs.Next.{next_place}

pub next_small : (g : DecisionLog) (n : ℕ) → Sound g n → next_place g < max_kept
unfolding next_place
next_small g n s = by (ltb g.count max_kept)
  where
    by : (b : Bool) → cond b (kept_place g g.count) g.first < max_kept
    by true = omega arith
    by false = s.first
