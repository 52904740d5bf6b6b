-- k ln 2 and a part's bracket joined: within 16 units, which is 2^-40, of the bracket of ln m = k ln 2 + 2 atanh (a / b), whatever the numbers of terms.
use Rattle.std.specs.Prelude.{ℕ, ◌+◌, ◌-◌, ◌*◌, ◌/◌, ◌^◌, ◌≤◌}
use Rattle.std.proofs.Common.{mul-le-mul_left, mul-le-mul_right, arith, lit<}
use Rattle.std.proofs.Math.Dec.{lit≤}
use Rattle.std.specs.Float.Ieee.Positive.{through}
use Rattle.arith.specs.Logarithm.{ln2}
use Rattle.bracket.specs.Series.{pw, num, top, bot, Near}
use Rattle.bracket.specs.Tangent.{pw_pos, bot_pos}
use Rattle.bracket.specs.Tail.{apart}
use Rattle.bracket.specs.Beside.{Between}

-- ---- both parts

pub ln2-under : (i : ℕ) → num i 1 3 * 2 ^ 56 ≤ (ln2 + 2) * pw i 3
ln2-under i = through _ (top 20 1 3) _ _ _ _ (bot_pos 20 3 (lit< tt)) (apart 1 3 (lit< tt) (lit≤ tt) i 20) (unfold top bot num pw in lit≤ tt)

pub ln2-over : (i : ℕ) → (ln2 - 1) * bot i 3 ≤ top i 1 3 * 2 ^ 56
ln2-over i = through _ (num 20 1 3) _ _ _ _ (pw_pos 20 3 (lit< tt)) (unfold num pw in lit≤ tt) (apart 1 3 (lit< tt) (lit≤ tt) 20 i)

-- M / Q is ln 2 and N / P the other part, in units
module _ (k K M Q N P : ℕ) (hk : k ≤ 64) where
  under : (high : ℕ) → k * ln2 ≤ 4096 * K + 4096 → M * 4096 ≤ (ln2 + 2) * Q → N ≤ high * P → k * M * P + N * Q ≤ (K + high + 2) * (Q * P)
  under high d h l = omega (arith, mul-le-mul_left (k * P) h, mul-le-mul_left (Q * P) d, mul-le-mul_left (Q * P) hk, mul-le-mul_left Q l)

  over : (low : ℕ) → 4096 * K ≤ k * ln2 → (ln2 - 1) * Q ≤ M * 4096 → low * P ≤ N → (K + low) * (Q * P) ≤ k * M * P + N * Q + Q * P
  over low d h l = omega (arith, mul-le-mul_left (k * P) h, mul-le-mul_left (Q * P) d, mul-le-mul_left (Q * P) hk, mul-le-mul_left Q l)

pub joined : (i j k c a r low high : ℕ) → k ≤ 64 → Between c a low high → k * ln2 / 4096 + high ≤ r + 14 → r ≤ k * ln2 / 4096 + low + 15 → Near i j k a (a + 2 * c) r
joined i j k c a r low high hk at hi lo =
    let K = k * ln2 / 4096 in
    let b = a + 2 * c in
    record {
      lower = omega (arith, under k K (2 ^ 44 * num i 1 3) (pw i 3) _ _ hk high (omega arith) (omega (arith, ln2-under i)) (at.under j), mul-le-mul_right (pw i 3 * pw j b) hi);
      upper = omega (arith, over k K (2 ^ 44 * top i 1 3) (bot i 3) _ _ hk low (omega arith) (omega (arith, ln2-over i)) (at.over j), mul-le-mul_right (bot i 3 * bot j b) lo);
    }
