-- `pressure::l0_fraction` meets its contract.
use Rattle.std.proofs.Common.{lt-ltb, le-ltb}
use Rattle.pressure.specs.Sample.{fraction_of}
use Rattle.pressure.proofs.l0_fraction.Goals as goal

pub returns-then-p-gt0 : goal.returns-then-p-gt0
unfolding fraction_of
returns-then-p-gt0 c = simp (lt-ltb _ _ c.if-p-gt0.true, c.of_u64.ensures, c.of_u64-then-p-gt0.ensures)

pub returns : goal.returns
unfolding fraction_of
returns c = simp (le-ltb _ _ c.if-p-gt0.false)
