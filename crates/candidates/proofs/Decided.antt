-- 01 (a), of each public call here: two outcomes that its contract allows are the same.
use Rattle.std.proofs.Common.{◌≡◌, sym, ◌∙◌}
use Rattle.candidates.specs.Told.{same_outcome}
use Rattle.candidates.proofs.generate_candidates.Reads as generate-candidates

pub generate_candidates_decides : (κs : _) (a : _) (one other : _) (e f : _) → generate-candidates.Post κs a one e → generate-candidates.Post κs a other f → (one ≡ other) × (e.1.1.1.1.0.now ≡ f.1.1.1.1.0.now) × (e.1.1.1.1.1.0.now ≡ f.1.1.1.1.1.0.now)
generate_candidates_decides κs a one other e f p q = (same_outcome one other (p.result ∙ sym q.result), p.candidates ∙ sym q.candidates, p.numbers ∙ sym q.numbers)
