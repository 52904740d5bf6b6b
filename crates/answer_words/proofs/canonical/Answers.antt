-- `answer_words::canonical` meets its contract.
use Rattle.answer_words.proofs.canonical.Goals as goal

pub returns : goal.returns
returns c = rw (c.to_bits.ensures, c.of_bits.ensures)
