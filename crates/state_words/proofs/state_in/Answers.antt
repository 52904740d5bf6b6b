-- `state_words::state_in` meets its contract.
use Rattle.std.proofs.Common.{sym}
use Rattle.state_words.specs.StateWords.{state_in}
use Rattle.state_words.proofs.state_in.Goals as goal

pub returns-in-None : goal.returns-in-None
unfolding state_in
returns-in-None c = rw (sym c.in-None.ensures.some) c.fresh.ensures

pub returns-in-Some : goal.returns-in-Some
unfolding state_in
returns-in-Some c = rw (sym c.in-Some.ensures.some, ← c.in-Some.ensures.words) c.state.ensures
