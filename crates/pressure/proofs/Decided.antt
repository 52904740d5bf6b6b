-- 01 (a), of each public call here: two outcomes that its contract allows are the same.
use mathlib.Core.Path.{◌≡◌, sym, ◌∙◌}
use Rattle.pressure.proofs.pacing.pacing_delay.Reads as pacing-delay

pub pacing_delay_decides : (κs : _) (a : _) (one other : _) (e f : _) → pacing-delay.Post κs a one e → pacing-delay.Post κs a other f → one ≡ other
pacing_delay_decides κs a one other e f p q = p ∙ sym q
