-- `pressure::share` meets its contract.
use Rattle.pressure.proofs.share.Goals as goal

pub returns : goal.returns
returns c = c.minimum.ensures
