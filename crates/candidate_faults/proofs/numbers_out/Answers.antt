-- `candidate_faults::numbers_out` meets its contract.
use Rattle.std.proofs.Common.{rules, tests, refl}
use Rattle.lists.specs.AnyPlace.{any_place}
use Rattle.candidate_records.specs.Candidates.{candidates_of, no_candidate}
use Rattle.candidate_faults.specs.Candidates.{numbers_out}
use Rattle.candidate_faults.proofs.numbers_out.Goals as goal

pub returns : goal.returns
returns c =
    any_place (numbers_out c.args.numbers) (candidates_of c.args.candidates.now) no_candidate _ _ _ _ refl c.candidate_count.ensures c.any.ensures.ran (λ x b q k. search (rules, tests))
