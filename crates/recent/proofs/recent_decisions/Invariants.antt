-- `recent::recent_decisions` meets its contract. The invariant: what is left to write is the kept decisions from the k-th on.
use Rattle.std.proofs.Common.{◌*◌, ◌-◌}
use Rattle.decision_log.specs.Log.{kept_from, kept_words}
use Rattle.decisions.specs.Decision.{decision_width}
use Rattle.lists.specs.Writes.{Filling}
use Rattle.recent.proofs.recent_decisions.Given as goal

abbrev pub invariant-loop-k : goal.invariant-loop-k
invariant-loop-k l = Filling l.initial.out 0 (kept_words l.log l.words) l.out (decision_width * l.k) (kept_from l.log l.words l.k (l.count - l.k))
