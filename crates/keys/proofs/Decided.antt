-- 01 (a), of each public call here: two outcomes that its contract allows are the same.
use mathlib.Core.Path.{◌≡◌, sym, ◌∙◌}
use Rattle.keys.proofs.compare.Reads as compare
use Rattle.keys.proofs.lesser.Reads as lesser
use Rattle.keys.proofs.greater.Reads as greater

pub compare_decides : (κs : _) (a : _) (one other : _) (e f : _) → compare.Post κs a one e → compare.Post κs a other f → one ≡ other
compare_decides κs a one other e f p q = p ∙ sym q

pub lesser_decides : (κs : _) (a : _) (one other : _) (e f : _) → lesser.Post κs a one e → lesser.Post κs a other f → one ≡ other
lesser_decides κs a one other e f p q = p ∙ sym q

pub greater_decides : (κs : _) (a : _) (one other : _) (e f : _) → greater.Post κs a one e → greater.Post κs a other f → one ≡ other
greater_decides κs a one other e f p q = p ∙ sym q
