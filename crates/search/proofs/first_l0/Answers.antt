-- `search::first_l0` meets its contract.
use Rattle.std.proofs.Common.{rules, tests}
use Rattle.candidate_records.specs.Candidates.{candidates_of}
use Rattle.search.specs.Search.Reading.{l0_places}
use Rattle.search.proofs.first_l0.Goals as goal

pub returns : goal.returns
returns c = l0_places (candidates_of c.args.candidates.now) _ _ _ (rw c.candidate_count.ensures at c.find.ensures.ran) (λ x b q k. search (rules, tests))
