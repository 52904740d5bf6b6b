-- `log_text::word_room` meets its contract: written out, since a search would count the words.
use Rattle.std.proofs.Common.{ℕ, refl, sym}
use lib.ListN.{length-replicate}
use Rattle.log_text.proofs.word_room.Goals as goal

pub returns : goal.returns
returns c = (sym (length-replicate {0} {A = ℕ} 57344 0), refl)
