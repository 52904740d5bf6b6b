-- `coinhamper::governed::coinhamper_dominant` meets its contract.
use Rattle.std.proofs.Common.{◌∙◌, ap}
use Rattle.kinds.specs.Numbers.{dominant_number}
use Rattle.coinhamper.proofs.governed.coinhamper_dominant.Goals as goal

pub returns : goal.returns
returns c = c.from.ensures ∙ ap dominant_number c.dominant.ensures
