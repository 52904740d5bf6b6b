-- `search::all_scores` meets its contract. What is left of the scores would complete the array.
use Rattle.std.proofs.Common.{◌≡◌, drop}
use lib.Seq.{sets}
use Rattle.candidate_records.specs.Candidates.{estimates_of}
use Rattle.search.specs.Search.{scores_of, score_array}
use Rattle.search.proofs.all_scores.Given as goal

abbrev pub invariant-loop-i : goal.invariant-loop-i
invariant-loop-i l = sets l.scores l.i (scores_of l.vector (drop l.i (estimates_of l.estimates))) ≡ score_array l.vector (estimates_of l.estimates)
