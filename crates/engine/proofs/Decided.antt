-- 01 (a), of each public call here: two outcomes that its contract allows are the same.
use mathlib.Core.Path.{◌≡◌, sym, ◌∙◌}
use Rattle.refusals.specs.Codes.Same.{same_told}
use Rattle.engine.proofs.observe_engine.Reads as observe-engine

pub observe_engine_decides : (κs : _) (a : _) (one other : _) (e f : _) → observe-engine.Post κs a one e → observe-engine.Post κs a other f → (one ≡ other) × (e.0.now ≡ f.0.now)
observe_engine_decides κs a one other e f p q = (same_told one other _ p.0 q.0, p.1 ∙ sym q.1)
