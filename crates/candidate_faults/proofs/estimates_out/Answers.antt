-- `candidate_faults::estimates_out` meets its contract.
use Rattle.std.proofs.Common.{rules, tests, refl}
use Rattle.lists.specs.AnyPlace.{any_place}
use Rattle.candidate_records.specs.Candidates.{estimates_of, no_estimate}
use Rattle.candidate_faults.specs.Candidates.{estimate_out}
use Rattle.candidate_faults.proofs.estimates_out.Goals as goal

pub returns : goal.returns
unfolding estimate_out
returns c =
    any_place estimate_out (estimates_of c.args.estimates.now) no_estimate _ _ _ _ refl c.estimate_count.ensures c.any.ensures.ran (λ x b q k. search (rules, tests))
