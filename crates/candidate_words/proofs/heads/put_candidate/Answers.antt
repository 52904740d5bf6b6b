-- `candidate_words::heads::put_candidate` meets its contract. It is written out so that a wrong word is refused here.
use Rattle.std.proofs.Common.{refl}
use Rattle.candidate_words.proofs.heads.put_candidate.Goals as goal

pub slice_bounds-put_words-end : goal.slice_bounds-put_words-end
slice_bounds-put_words-end c = refl

pub returns : goal.returns
returns c = record { words = record { ends = refl; stands = c.put_words.ensures }; numbers = refl }
