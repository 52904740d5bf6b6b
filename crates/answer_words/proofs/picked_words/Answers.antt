-- `answer_words::picked_words` meets its contract.
use Rattle.answer_words.specs.AnswerWords.{picked_words}
use Rattle.answer_words.proofs.picked_words.Goals as goal

pub returns : goal.returns
unfolding picked_words
returns c = rw (c.from.ensures, c.focus_words-focus.ensures, c.winner_words-winner.ensures)
