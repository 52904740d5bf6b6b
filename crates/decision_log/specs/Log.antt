-- The log of the last 4,096 decisions: what is refused, and the words of those that are kept. Definitions only.
pub mod Sound
pub mod Kept
use Rattle.std.specs.Prelude.{ℕ, zero, suc, ◌+◌, ◌*◌, ◌%◌, Bool, not, ◌||◌, List, [], ◌++◌, take, drop, leb, ltb, eqb}
use Rattle.decision_log.specs.declared.DecisionLog.{DecisionLog}
use Rattle.decisions.specs.Decision.{decision_width}

abbrev pub empty_log : DecisionLog
empty_log = record { first = 0; count = 0; sequence = 0 }

abbrev pub max_kept : ℕ
max_kept = 4096

abbrev pub log_words : ℕ
log_words = max_kept * decision_width

-- 10
unfoldable pub log_bad : DecisionLog → ℕ → Bool
log_bad g n = not (eqb n log_words) || (leb max_kept g.first || ltb max_kept g.count)

-- the place of the k-th kept decision, the oldest being the 0th
abbrev pub kept_place : DecisionLog → ℕ → ℕ
kept_place g k = (g.first + k) % max_kept

-- ---- the kept decisions

-- a place's words
abbrev pub place_words : List ℕ → ℕ → List ℕ
place_words ws p = take decision_width (drop (decision_width * p) ws)

-- n kept decisions from the k-th on, undecoded
unfoldable pub kept_from : DecisionLog → List ℕ → ℕ → ℕ → List ℕ
kept_from g ws k zero = []
kept_from g ws k (suc n) = place_words ws (kept_place g k) ++ kept_from g ws (suc k) n

abbrev pub kept_words : DecisionLog → List ℕ → List ℕ
kept_words g ws = kept_from g ws 0 g.count
