-- `pressure::components_of` meets its contract.
use Rattle.pressure.specs.Pressure.{components_of}
use Rattle.pressure.proofs.components_of.Goals as goal

pub returns : goal.returns
unfolding components_of
returns c = simp (c.share-4.ensures, c.share-3.ensures, c.of_u64.ensures, c.share-2.ensures, c.share.ensures)
