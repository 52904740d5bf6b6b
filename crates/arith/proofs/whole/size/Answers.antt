-- `arith::whole::size` meets its contract.
use Rattle.std.proofs.Common.{arith}
use Rattle.arith.specs.Whole.Rounding.{leading-size}
use Rattle.arith.proofs.whole.size.Goals as goal

pub returns : goal.returns
returns c = omega (arith, leading-size c.args.n c.ranges.n.fits)
