-- `answer_words::stats_words` meets its contract.
use Rattle.answer_words.proofs.stats_words.Goals as goal

pub returns : goal.returns
returns c = rw (c.to_bits-6.ensures, c.to_bits-5.ensures, c.to_bits-4.ensures, c.to_bits-3.ensures, c.to_bits-2.ensures, c.to_bits.ensures, c.idx.ensures)
