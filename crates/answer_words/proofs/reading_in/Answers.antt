-- `answer_words::reading_in` meets its contract.
use Rattle.answer_words.specs.AnswerWords.{reading_in}
use Rattle.answer_words.proofs.reading_in.Goals as goal

pub returns : goal.returns
unfolding reading_in
returns c = rw (c.canonical-4.ensures, c.canonical-3.ensures, c.canonical-2.ensures, c.canonical.ensures)
