-- `search::best` meets its contract.
use Rattle.std.proofs.Common.{rules, tests}
use Rattle.search.specs.Search.{All, read_choice}
use Rattle.search.proofs.best.Goals as goal

pub returns : goal.returns
returns c =
    let a = c.args in
    λ ew. rw c.candidate_count-n.ensures at (c.last_best.ensures All (read_choice a.candidates.now ew a.scores) (λ i t h p. search (rules, tests)) (λ i k t h h2 p. search (rules, tests)))
