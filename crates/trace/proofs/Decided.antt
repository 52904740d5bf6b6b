-- 01 (a), of each public call here: two outcomes that its contract allows are the same.
use Rattle.std.proofs.Common.{◌≡◌, sym, ◌∙◌}
use Rattle.trace.proofs.scheduling_decision.Reads as scheduling-decision

pub scheduling_decision_decides : (κs : _) (a : _) (one other : _) (e f : _) → scheduling-decision.Post κs a one e → scheduling-decision.Post κs a other f → one ≡ other
scheduling_decision_decides κs a one other e f p q = p ∙ sym q
