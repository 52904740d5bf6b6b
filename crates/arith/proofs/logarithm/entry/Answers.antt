-- `arith::logarithm::entry` meets its contract: the array is the list of specs/Logarithm.antt.
use Rattle.std.proofs.Common.{refl}
use Rattle.arith.specs.Logarithm.{tab}
use Rattle.arith.proofs.logarithm.entry.Goals as goal

pub returns : goal.returns
unfolding tab
returns c = refl
