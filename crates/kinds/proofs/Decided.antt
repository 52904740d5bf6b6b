-- 01 (a), of each public call here: two outcomes that its contract allows are the same.
use Rattle.std.proofs.Common.{◌≡◌, sym, ◌∙◌}
use Rattle.kinds.proofs.vector.PressureVector.dominant.Reads as dominant

pub dominant_decides : (κs : _) (a : _) (one other : _) (e f : _) → dominant.Post κs a one e → dominant.Post κs a other f → one ≡ other
dominant_decides κs a one other e f p q = p ∙ sym q
