-- `coinhamper::governed::coinhamper_read` meets its contract.
use Rattle.std.proofs.Common.{refl}
use Rattle.answer_words.specs.AnswerWords.{reading_words}
use Rattle.answer_words.specs.AnswerWords.Told.{told}
use Rattle.coinhamper.proofs.governed.coinhamper_read.Goals as goal

pub returns : goal.returns
unfolding reading_words
returns c =
    let both = told _ _ _ _ 8 c.args.out.now _ _ c.gate.ensures c.reading_of-eight.ensures refl (c.answer.ensures.value, c.answer.ensures.out_after) in
    record { value = both.0; out_after = both.1 }
