-- 01 (a), of each public call here: two outcomes that its contract allows are the same.
use mathlib.Core.Path.{◌≡◌, sym, ◌∙◌}
use Rattle.decision_log.proofs.empty.Reads as empty
use Rattle.decision_log.proofs.kept_place.Reads as kept-place

pub empty_decides : (κs : _) (a : _) (one other : _) (e f : _) → empty.Post κs a one e → empty.Post κs a other f → one ≡ other
empty_decides κs a one other e f p q = p ∙ sym q

pub kept_place_decides : (κs : _) (a : _) (one other : _) (e f : _) → kept-place.Post κs a one e → kept-place.Post κs a other f → one ≡ other
kept_place_decides κs a one other e f p q = p ∙ sym q
