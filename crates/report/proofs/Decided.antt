-- 01 (a), of each public call here: two outcomes that its contract allows are the same.
use mathlib.Core.Path.{◌≡◌, sym, ◌∙◌}
use Rattle.refusals.specs.Codes.Same.{same_answer}
use Rattle.report.proofs.record_candidate_chosen.Reads as record-candidate-chosen
use Rattle.report.proofs.with_trivial_move.Reads as with-trivial-move
use Rattle.report.proofs.with_outcome.Reads as with-outcome

pub record_candidate_chosen_decides : (κs : _) (a : _) (one other : _) (e f : _) → record-candidate-chosen.Post κs a one e → record-candidate-chosen.Post κs a other f → one ≡ other
record_candidate_chosen_decides κs a one other e f p q = p ∙ sym q

pub with_trivial_move_decides : (κs : _) (a : _) (one other : _) (e f : _) → with-trivial-move.Post κs a one e → with-trivial-move.Post κs a other f → one ≡ other
with_trivial_move_decides κs a one other e f p q = same_answer one other _ _ p.0 p.1 q.0 q.1

pub with_outcome_decides : (κs : _) (a : _) (one other : _) (e f : _) → with-outcome.Post κs a one e → with-outcome.Post κs a other f → one ≡ other
with_outcome_decides κs a one other e f p q = same_answer one other _ _ p.0 p.1 q.0 q.1
