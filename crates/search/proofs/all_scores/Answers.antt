-- `search::all_scores` meets its contract. What is left of the scores would complete the array.
use Rattle.std.proofs.Common.{refl, add-one, arith}
use Rattle.candidate_records.specs.Candidates.{estimates_of}
use Rattle.search.specs.Search.Reading.{scores_more, scores_done}
use Rattle.search.proofs.all_scores.Goals as goal

pub loop-i-init : goal.loop-i-init
loop-i-init c = refl

pub loop-i-preserved : goal.loop-i-preserved
loop-i-preserved c = let a = c.args in let l = c.loop-i in rw (c.cause_aware_score.ensures, c.estimate_at.ensures, add-one) (rw (scores_more a.vector (estimates_of a.estimates.now) l.i (omega arith), add-one) at l.invariant)

pub returns : goal.returns
returns c = let a = c.args in let l = c.loop-i in scores_done a.vector (estimates_of a.estimates.now) l.i l.scores (omega (arith, c.min-i-end.ensures, c.estimate_count-n.ensures)) l.invariant
