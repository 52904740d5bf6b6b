-- 01 (a), of each public call here: two outcomes that its contract allows are the same.
use mathlib.Core.Path.{◌≡◌, sym, ◌∙◌}
use Rattle.decisions.proofs.to_words.Reads as to-words
use Rattle.decisions.proofs.of_words.Reads as of_words

pub to_words_decides : (κs : _) (a : _) (one other : _) (e f : _) → to-words.Post κs a one e → to-words.Post κs a other f → one ≡ other
to_words_decides κs a one other e f p q = p ∙ sym q

pub of_words_decides : (κs : _) (a : _) (one other : _) (e f : _) → of_words.Post κs a one e → of_words.Post κs a other f → one ≡ other
of_words_decides κs a one other e f p q = p ∙ sym q
