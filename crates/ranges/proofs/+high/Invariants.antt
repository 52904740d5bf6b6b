-- `ranges::high` ends: each half has fewer places.
use Rattle.std.proofs.Common.{length}
use Rattle.ranges.proofs.+high.Given as goal

abbrev pub decreases-high : goal.decreases-high
decreases-high l = length l.places.now
