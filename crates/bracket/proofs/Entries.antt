-- Each entry of the table is between the brackets of every number of terms.
use Rattle.std.specs.Prelude.{ℕ, ◌+◌, ◌-◌, ◌*◌, ◌^◌, ◌≤◌, ◌<◌, ◌&&◌, T, get_or}
use Rattle.std.proofs.Common.{arith, leb→le}
use Rattle.std.specs.Float.Ieee.Fits.{and_l, and_r}
use Rattle.std.specs.Float.Ieee.Positive.{through}
use Rattle.arith.specs.Logarithm.{tab}
use Rattle.bracket.specs.Series.{pw, num, top, bot}
use Rattle.bracket.specs.Tangent.{pw_pos, bot_pos}
use Rattle.bracket.specs.Tail.{apart}
use Rattle.arith.specs.Logarithm.Table.{at, tab-length}
use Rattle.bracket.specs.Entries.{over, under, test}

between : (i : ℕ) → i < 1024 → T (over i (get_or tab i 0) && under i (get_or tab i 0))
between i h = at (λ (i x next : ℕ). over i x && under i x) 0 tab test i (rw tab-length h)

-- so between those of every number of terms
pub entry-over : (n i : ℕ) → i < 1024 → (get_or tab i 0 - 1) * bot n (2048 + i) ≤ top n i (2048 + i) * 2 ^ 44
unfolding over
entry-over n i h =
    through _ _ _ _ _ _ (pw_pos 13 (2048 + i) (omega arith))
    (leb→le _ _ (and_l (over i (get_or tab i 0)) (under i (get_or tab i 0)) (between i h))) (apart i (2048 + i) (omega arith) (omega arith) 13 n)

pub entry-under : (n i : ℕ) → i < 1024 → num n i (2048 + i) * 2 ^ 44 ≤ (get_or tab i 0 + 2) * pw n (2048 + i)
unfolding under
entry-under n i h =
    through _ _ _ _ _ _ (bot_pos 13 (2048 + i) (omega arith))
    (apart i (2048 + i) (omega arith) (omega arith) n 13) (leb→le _ _ (and_r (over i (get_or tab i 0)) (under i (get_or tab i 0)) (between i h)))
