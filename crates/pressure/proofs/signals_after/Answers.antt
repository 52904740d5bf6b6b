-- `pressure::signals_after` meets its contract.
use Rattle.pressure.specs.Pressure.{signals_of}
use Rattle.pressure.proofs.signals_after.Goals as goal

pub returns : goal.returns
unfolding signals_of
returns c = simp (c.blended.ensures, c.components_of.ensures, c.l0_fraction.ensures, c.smoothed-probed.ensures)
