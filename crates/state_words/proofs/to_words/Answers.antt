-- `state_words::to_words` meets its contract.
use Rattle.state_words.specs.StateWords.{state_words}
use Rattle.state_words.proofs.to_words.Goals as goal

pub returns : goal.returns
unfolding state_words
returns c = rw (c.to_bits-8.ensures, c.to_bits-7.ensures, c.to_bits-6.ensures, c.to_bits-5.ensures, c.to_bits-4.ensures, c.to_bits-3.ensures, c.to_bits-2.ensures, c.to_bits.ensures, c.idx.ensures, c.focus_words-focus.ensures)
