-- `pressure::pacing::pacing_delay` meets its contract.
use Rattle.pressure.specs.Pacing.{pacing_of}
use Rattle.pressure.proofs.pacing.pacing_delay.Goals as goal

pub returns : goal.returns
unfolding pacing_of
returns c = simp (c.truncate.ensures, c.maximum.ensures, c.clamp-p.ensures, c.ceiling-ceiling_nanos.ensures)
