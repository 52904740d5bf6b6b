-- Nothing is at or above an entering threshold and at or below a leaving one, and the source's numbers are apart.
use mathlib.Core.Bool.{Bool, true, false, ◌&&◌, ◌||◌}
use lib.Dec.{T, lit<}
use lib.Ieee.{Float, of_bits, le, lt}
use lib.Ieee.Fits.{and_l, and_r}
use Rattle.arith.specs.Floats.Order.{le_trans, lt_not_le}
use Rattle.kinds.specs.Tuning.{Tuning, source}
use Rattle.governor_promises.specs.Reading.{Seen, IsHot, HasRecovered, IsHigh, IsCalm, Apart}

between : (leave enter x : Float) → T (lt leave enter) → T (le enter x) → T (le x leave) → ⊥
between leave enter x p h k = lt_not_le leave enter p (le_trans enter x leave h k)

either : (a b c d : Bool) → (T a → T c → ⊥) → (T b → T d → ⊥) → T (a || b) → T (c && d) → ⊥
either true b c d f g h k = f tt (and_l c d k)
either false b c d f g h k = g h (and_r c d k)

module _ (G : Tuning) (A : Apart G) where
  pub hot-recovered : (x : Seen) → IsHot G x → HasRecovered G x → ⊥
  hot-recovered x =
      either (le G.enter_fraction x.fraction) (le G.enter_ratio x.ratio) (le x.fraction G.exit_fraction) (le x.ratio G.exit_ratio)
      (between G.exit_fraction G.enter_fraction x.fraction A.fraction) (between G.exit_ratio G.enter_ratio x.ratio A.ratio)

  pub high-calm : (x : Seen) → IsHigh G x → IsCalm G x → ⊥
  high-calm x = between G.exit_probed G.enter_probed x.smooth A.probed

pub source-apart : Apart source
unfolding of_bits lt
source-apart = record { fraction = tt; ratio = tt; probed = tt; exits = lit< tt; enters = lit< tt; leaves = lit< tt }
