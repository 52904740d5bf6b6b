-- An answer by its number and its figures: what is told of it is the snapshot.
-- Assumes nothing.
use Rattle.std.specs.Prelude.{◌≡◌, refl, ℕ, Result, Ok, Err, IfOk}
use Rattle.std.proofs.Common.{sym, ◌∙◌, ap}
use Rattle.refusals.specs.declared.Refusal.{Refusal}
use Rattle.refusals.specs.Codes.{number_of, code}
use Rattle.refusals.specs.Codes.Same.{refused, same_refusal}
use Rattle.snapshot.specs.declared.GovernorStats.{GovernorStats}
use Rattle.snapshot.specs.Snapshot.{SnapshotAnswer, Stats, Refused, snapshot_refusal}

abbrev pub told_of : Result GovernorStats Refusal → SnapshotAnswer
told_of (Ok t) = Stats t
told_of (Err e) = Refused (number_of e)

pub told : (r : Result GovernorStats Refusal) (x : SnapshotAnswer) → code r ≡ snapshot_refusal x → IfOk r (λ t. Stats t ≡ x) → told_of r ≡ x
told (Ok t) x p q = q
told (Err e) (Stats t) p q = absurd (refused e p)
told (Err e) (Refused n) p q = ap Refused p

abbrev stats_in : GovernorStats → SnapshotAnswer → GovernorStats
stats_in d (Stats t) = t
stats_in d (Refused n) = d

-- two answers of which the same is told are the same
pub same : (r s : Result GovernorStats Refusal) → told_of r ≡ told_of s → r ≡ s
same (Ok t) (Ok u) p = ap (λ (x : SnapshotAnswer). Ok (stats_in t x)) p
same (Ok t) (Err e) p = absurd (refused e (sym (ap snapshot_refusal p)))
same (Err d) (Ok u) p = absurd (refused d (ap snapshot_refusal p))
same (Err d) (Err e) p = ap Err (same_refusal d e (ap snapshot_refusal p))
