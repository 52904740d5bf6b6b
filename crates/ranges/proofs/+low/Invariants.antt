-- `ranges::low` ends: each half has fewer places.
use Rattle.std.proofs.Common.{length}
use Rattle.ranges.proofs.+low.Given as goal

abbrev pub decreases-low : goal.decreases-low
decreases-low l = length l.places.now
