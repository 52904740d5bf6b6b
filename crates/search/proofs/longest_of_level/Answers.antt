-- `search::longest_of_level` meets its contract.
use Rattle.std.proofs.Common.{rules, tests}
use Rattle.search.specs.Search.{Batches, read_choice}
use Rattle.search.proofs.longest_of_level.Goals as goal

pub returns : goal.returns
returns c =
    let a = c.args in
    λ ss. rw c.candidate_count-n.ensures at (c.last_best.ensures (Batches a.level) (read_choice a.candidates.now a.estimates.now ss) (λ i t h p. search (rules, tests)) (λ i k t h h2 p. search (rules, tests)))
