-- `modes::switch_to` meets its contract.
use Rattle.modes.proofs.switch_to.Goals as goal

pub returns : goal.returns
returns c = c.keep_mode.ensures
