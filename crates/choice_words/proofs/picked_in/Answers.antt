-- `choice_words::picked_in` meets its contract.
use Rattle.std.proofs.Common.{arith, sym}
use Rattle.choice_words.specs.ChoiceWords.Told.{picked-long}
use Rattle.choice_words.proofs.picked_in.Goals as goal

pub bounds-words-0 : goal.bounds-words-0
bounds-words-0 c = omega (arith, picked-long _ (sym c.if-not-is_picked.ensures))

pub bounds-words-1 : goal.bounds-words-1
bounds-words-1 c = omega (arith, picked-long _ (sym c.if-not-is_picked.ensures))

pub bounds-words-5 : goal.bounds-words-5
bounds-words-5 c = omega (arith, picked-long _ (sym c.if-not-is_picked.ensures))
