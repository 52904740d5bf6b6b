-- Two outcomes that the contract of this room's door allows are the same, as 01 (a) asks of calls.
use Rattle.std.proofs.Common.{◌≡◌}
use Rattle.l0_words.specs.Written.{written_decides}
use Rattle.l0_words.proofs.put_l0.Reads as put-l0

pub put_l0_decides : (κs : _) (a : _) (one other : _) (e f : _) → put-l0.Post κs a one e → put-l0.Post κs a other f → (one ≡ other) × (e.1.1.1.0.now ≡ f.1.1.1.0.now) × (e.1.1.1.1.0.now ≡ f.1.1.1.1.0.now)
put_l0_decides κs a one other e f p q = written_decides _ _ _ _ _ _ _ _ one other p q
