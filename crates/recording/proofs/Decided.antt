-- 01 (a), of each public call here: two outcomes that its contract allows are the same.
use mathlib.Core.Path.{◌≡◌, sym, ◌∙◌}
use Rattle.refusals.specs.Codes.Same.{same_answer}
use Rattle.recording.proofs.record_decision.Reads as record-decision

pub record_decision_decides : (κs : _) (a : _) (one other : _) (e f : _) → record-decision.Post κs a one e → record-decision.Post κs a other f → (one ≡ other) × (e.1.0.now ≡ f.1.0.now)
record_decision_decides κs a one other e f p q = (same_answer one other _ _ p.0 p.1.0 q.0 q.1.0, p.1.1 ∙ sym q.1.1)
