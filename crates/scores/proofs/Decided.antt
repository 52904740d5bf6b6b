-- 01 (a), of each public call here: two outcomes that its contract allows are the same.
use Rattle.std.proofs.Common.{◌≡◌, sym, ◌∙◌}
use Rattle.scores.proofs.cause_aware_score.Reads as cause-aware-score

pub cause_aware_score_decides : (κs : _) (a : _) (one other : _) (e f : _) → cause-aware-score.Post κs a one e → cause-aware-score.Post κs a other f → one ≡ other
cause_aware_score_decides κs a one other e f p q = p ∙ sym q
