-- `pressure::smoothed` meets its contract.
use Rattle.std.proofs.Common.{refl}
use Rattle.pressure.specs.Smoothing.{smoothed_of}
use Rattle.pressure.proofs.smoothed.Goals as goal

pub returns : goal.returns
unfolding smoothed_of
returns c = refl
