-- 01 (a), of each public call here: two outcomes that its contract allows are the same.
use mathlib.Core.Path.{◌≡◌, sym, ◌∙◌}
use Rattle.snapshot.specs.Snapshot.Answered.{told, same}
use Rattle.snapshot.proofs.snapshot.Reads as snapshot

pub snapshot_decides : (κs : _) (a : _) (one other : _) (e f : _) → snapshot.Post κs a one e → snapshot.Post κs a other f → one ≡ other
snapshot_decides κs a one other e f p q = same one other (told one _ p.0 p.1 ∙ sym (told other _ q.0 q.1))
