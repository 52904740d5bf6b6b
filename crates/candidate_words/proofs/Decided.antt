-- Two outcomes that the contract of this room's door allows are the same, as 01 (a) asks of calls.
use Rattle.std.proofs.Common.{◌≡◌}
use Rattle.l0_words.specs.Written.{written_decides}
use Rattle.candidate_words.proofs.put_candidates.Reads as put-candidates

pub put_candidates_decides : (κs : _) (a : _) (one other : _) (e f : _) → put-candidates.Post κs a one e → put-candidates.Post κs a other f → (one ≡ other) × (e.1.1.1.1.0.now ≡ f.1.1.1.1.0.now) × (e.1.1.1.1.1.0.now ≡ f.1.1.1.1.1.0.now)
put_candidates_decides κs a one other e f p q = written_decides _ _ _ _ _ _ _ _ one other p q
