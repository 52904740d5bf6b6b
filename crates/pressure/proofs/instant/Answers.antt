-- `pressure::instant` meets its contract.
use Rattle.pressure.specs.Pressure.{instant_of}
use Rattle.pressure.proofs.instant.Goals as goal

pub returns : goal.returns
unfolding instant_of
returns c = simp (c.maximum-structural.ensures, c.maximum.ensures)
