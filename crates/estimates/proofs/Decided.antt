-- 01 (a), of each public call here: two outcomes that its contract allows are the same.
use Rattle.std.proofs.Common.{◌≡◌, sym, ◌∙◌}
use Rattle.refusals.specs.Codes.Same.{same_answer}
use Rattle.estimates.proofs.estimate_candidates.Reads as estimate-candidates

pub estimate_candidates_decides : (κs : _) (a : _) (one other : _) (e f : _) → estimate-candidates.Post κs a one e → estimate-candidates.Post κs a other f → (one ≡ other) × (e.1.1.1.1.1.0.now ≡ f.1.1.1.1.1.0.now)
estimate_candidates_decides κs a one other e f p q = (same_answer one other _ _ p.0 p.1.0 q.0 q.1.0, p.1.1 ∙ sym q.1.1)
