-- `estimates::nine_words` meets its contract.
use Rattle.estimates.proofs.nine_words.Goals as goal

pub returns : goal.returns
returns c = rw (c.to_bits-3.ensures, c.to_bits-2.ensures, c.to_bits.ensures)
