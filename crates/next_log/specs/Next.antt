-- The log after one more decision. Definitions only.
pub mod Small
use Rattle.std.specs.Prelude.{ℕ, ◌+◌, ◌-◌, ◌^◌, min, cond, ltb}
use Rattle.decision_log.specs.declared.DecisionLog.{DecisionLog}
use Rattle.decision_log.specs.Log.{max_kept, kept_place}

-- the next goes after the newest, or over the oldest when all places are kept
unfoldable pub next_place : DecisionLog → ℕ
next_place g = cond (ltb g.count max_kept) (kept_place g g.count) g.first

-- the sequence stays at the top
abbrev pub next_sequence : DecisionLog → ℕ
next_sequence g = min (g.sequence + 1) (2 ^ 64 - 1)

abbrev pub next_log : DecisionLog → DecisionLog
next_log g =
    record {
      first = cond (ltb g.count max_kept) g.first (kept_place g 1);
      count = cond (ltb g.count max_kept) (g.count + 1) max_kept;
      sequence = next_sequence g;
    }
