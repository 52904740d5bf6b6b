-- 01 (a), of each public call here: two outcomes that its contract allows are the same.
use mathlib.Core.Path.{◌≡◌, sym, ◌∙◌}
use Rattle.refusals.specs.Codes.Same.{same_answer}
use Rattle.recent.proofs.recent_decisions.Reads as recent-decisions

pub recent_decisions_decides : (κs : _) (a : _) (one other : _) (e f : _) → recent-decisions.Post κs a one e → recent-decisions.Post κs a other f → (one ≡ other) × (e.1.1.0.now ≡ f.1.1.0.now)
recent_decisions_decides κs a one other e f p q = (same_answer one other _ _ p.0 p.1.0 q.0 q.1.0, p.1.1 ∙ sym q.1.1)
