-- `candidate_faults::broken_candidates` meets its contract.
use Rattle.std.proofs.Common.{rules, tests, refl, ◌∙◌, ne_eqb, eq-eqb}
use Rattle.lists.specs.AnyPlace.{any_place}
use Rattle.candidate_records.specs.Candidates.{candidates_of, no_candidate}
use Rattle.candidate_faults.specs.Candidates.{candidate_broken}
use Rattle.candidate_faults.proofs.broken_candidates.Goals as goal

pub returns-then-candidates-ne0 : goal.returns-then-candidates-ne0
returns-then-candidates-ne0 c = rw (ne_eqb _ 0 c.if-candidates-ne0.true)

pub returns-else-candidates-ne0 : goal.returns-else-candidates-ne0
returns-else-candidates-ne0 c =
    any_place candidate_broken (candidates_of c.args.candidates.now) no_candidate _ _ _ _ refl c.candidate_count.ensures c.any.ensures.ran (λ x b q k. search (rules, tests)) ∙ rw (eq-eqb _ 0 c.if-candidates-ne0.false)
