-- `candidate_faults::too_many_numbers` meets its contract.
use Rattle.std.proofs.Common.{rules, tests, refl}
use Rattle.lists.specs.AnyPlace.{any_place}
use Rattle.candidate_records.specs.Candidates.{candidates_of, no_candidate}
use Rattle.candidate_faults.specs.Candidates.{too_many_numbers}
use Rattle.candidate_faults.proofs.too_many_numbers.Goals as goal

pub returns : goal.returns
returns c =
    any_place too_many_numbers (candidates_of c.args.candidates.now) no_candidate _ _ _ _ refl c.candidate_count.ensures c.any.ensures.ran (λ x b q k. search (rules, tests))
