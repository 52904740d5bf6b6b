-- 01 (a), of each public call here: two outcomes that its contract allows are the same.
use Rattle.std.proofs.Common.{◌≡◌, ap}
use Rattle.std.proofs.lemmas.Result.{IfOk-weaker}
use Rattle.refusals.specs.Codes.Same.{same_answer}
use Rattle.choice.specs.declared.Picked.{Picked}
use Rattle.choice.specs.PickAnswer.{PickAnswer}
use Rattle.choice.proofs.pick_best_cause_aware.Reads as pick-best-cause-aware

taken : PickAnswer → Picked
taken p = record { winner = p.winner; focus = p.focus; tier = p.tier }

pub pick_best_cause_aware_decides : (κs : _) (a : _) (one other : _) (e f : _) → pick-best-cause-aware.Post κs a one e → pick-best-cause-aware.Post κs a other f → one ≡ other
unfolding taken
pick_best_cause_aware_decides κs a one other e f p q =
    same_answer one other _ _ p.0 (IfOk-weaker one _ _ (λ x e. ap taken e) p.1) q.0 (IfOk-weaker other _ _ (λ x e. ap taken e) q.1)
