-- `candidate_words::moves::put_moves` meets its contract. Of no move nothing is written.
use Rattle.std.proofs.Common.{◌≡◌, arith, length, length-take, rules}
use Rattle.offers.specs.Offers.{held_in}
use Rattle.records.specs.Tables.{tables_of}
use Rattle.l0_words.specs.Written.{written_none, written_one}
use Rattle.candidate_words.specs.Writing.{fit-one}
use Rattle.candidate_words.specs.Levels.{moves-some}
use Rattle.candidate_words.specs.Candidates.{move_offers}
use Rattle.candidate_words.proofs.moves.put_moves.Goals as goal

pub returns-then-b-eq0 : goal.returns-then-b-eq0
unfolding move_offers
returns-then-b-eq0 c = rw c.if-b-eq0.true (written_none _ _ _)

pub put_candidate-requires : goal.put_candidate-requires
put_candidate-requires c =
    let a = c.args in
    let z : length a.b.places ≡ 8 = search rules in
    let there = moves-some (tables_of a.tables.now) a.level (held_in a.b) (omega (arith, length-take a.b.len a.b.places, c.if-b-eq0.false)) in
    record { level_bound = c.requires.level_bound; words_bound = fit-one _ _ _ _ _ _ _ _ c.put_held-count.ensures (rw there at c.requires.fit) }

pub returns : goal.returns
returns c =
    let a = c.args in
    let z : length a.b.places ≡ 8 = search rules in
    let there = moves-some (tables_of a.tables.now) a.level (held_in a.b) (omega (arith, length-take a.b.len a.b.places, c.if-b-eq0.false)) in
    rw there (written_one _ _ _ _ _ _ _ _ c.put_held-count.ensures _ _ _ c.put_candidate.ensures)
