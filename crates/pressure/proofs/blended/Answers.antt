-- `pressure::blended` meets its contract.
use Rattle.pressure.specs.Pressure.{blended_of}
use Rattle.pressure.proofs.blended.Goals as goal

pub returns : goal.returns
unfolding blended_of
returns c = simp (c.smoothed-debt_ewma.ensures, c.maximum-2.ensures, c.clamp-last_pressure.ensures, c.maximum.ensures, c.smoothed-pressure_ewma.ensures, c.instant.ensures)
