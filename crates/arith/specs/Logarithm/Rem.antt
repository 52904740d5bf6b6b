-- The remainder is between the two cubics, but for a few units, and never falls.
use Rattle.std.specs.Prelude.{◌≡◌, ℕ, zero, suc, ◌+◌, ◌-◌, ◌*◌, ◌/◌, ◌^◌, ◌<◌, ◌≤◌}
use Rattle.std.proofs.Common.{ap, mul-le-mul_left, mul-le-mul_right, mul-le-mul, le_trans, le_refl, zero-mul, add-zero, add-suc, add-sub_of_le, sub-one, arith}
use Rattle.arith.specs.Logarithm.{cut, rem}
use Rattle.arith.specs.Logarithm.Cubic.{high, low, high_is, low_is}

-- 2^92 times what is taken off, within its roundings
cut-near : (z : ℕ) → z < 2 ^ 32 → (2 ^ 92 * cut z + 341 * (z * z * z) ≤ (2 ^ 51 + 341 * 2 ^ 16) * (z * z) + 2 ^ 92) × (2 ^ 51 * (z * z) ≤ 2 ^ 92 * cut z + 341 * (z * z * z) + 2 ^ 87)
unfolding cut
cut-near z h = go (z * z / 2 ^ 36) (z / 2 ^ 16) (2 ^ 35 - 341 * (z / 2 ^ 16)) (cut z) (omega arith) (omega arith) (omega arith) (omega arith) (omega arith) (omega arith) (omega arith) where
  go : (q w h c : ℕ) → 2 ^ 36 * q ≤ z * z → z * z ≤ 2 ^ 36 * q + 2 ^ 36 → 2 ^ 16 * w ≤ z → z ≤ 2 ^ 16 * w + 2 ^ 16 → h + 341 * w ≡ 2 ^ 35 → q * h ≤ 2 ^ 40 * c → 2 ^ 40 * c ≤ q * h + 2 ^ 40 →
      (2 ^ 92 * c + 341 * (z * z * z) ≤ (2 ^ 51 + 341 * 2 ^ 16) * (z * z) + 2 ^ 92) × (2 ^ 51 * (z * z) ≤ 2 ^ 92 * c + 341 * (z * z * z) + 2 ^ 87)
  go q w h c q1 q2 w1 w2 e c1 c2 =
      let f = ap (λ (x : ℕ). z * z * x) e in
      (omega (arith, mul-le-mul_right h q1, mul-le-mul_left (z * z) w2), omega (arith, mul-le-mul_right h q2, mul-le-mul_left (z * z) w1))

-- whatever the cubic term takes back
pub taken-small : (z h : ℕ) → z < 2 ^ 32 → h ≤ 2 ^ 35 → (z * z / 2 ^ 36 * h + (2 ^ 40 - 1)) / 2 ^ 40 ≤ 4 * z
taken-small zero h l b = omega (arith, zero-mul h)
taken-small (suc z) h l b = go (suc z * suc z / 2 ^ 36) (omega (arith, mul-le-mul_right (suc z) l)) where
  go : (q : ℕ) → 16 * q ≤ suc z → (q * h + (2 ^ 40 - 1)) / 2 ^ 40 ≤ 4 * suc z
  go q a = omega (arith, mul-le-mul_left q b)

cut_small : (z : ℕ) → z < 2 ^ 32 → cut z ≤ 4 * z
unfolding cut
cut_small z h = taken-small z (2 ^ 35 - 341 * (z / 2 ^ 16)) h (omega arith)

pub rem-low : (z : ℕ) → z < 2 ^ 32 → 3 * 2 ^ 92 * (rem z - 1) ≤ low (2 ^ 42) z
unfolding rem
rem-low z h =
    less (3 * 2 ^ 92) (4 * z - cut z) (low (2 ^ 42) z)
    (go (2 ^ 92) (cut z) (4 * z - cut z) (low (2 ^ 42) z) (omega (arith, cut_small z h)) (cut-near z h).1 (omega (arith, low_is (2 ^ 42) z (omega arith))) (omega arith)) where
      go : (K c m r : ℕ) → m + c ≡ 4 * z → 2 ^ 51 * (z * z) ≤ K * c + 341 * (z * z * z) + 2 ^ 87 → r + 3 * 2 ^ 51 * (z * z) + 3 * 2 ^ 51 * z ≡ 12 * K * z + 1023 * (z * z * z) →
          3 * 2 ^ 87 + 3 * 2 ^ 51 * z ≤ 3 * K → 3 * K * m ≤ r + 3 * K
      go K c m r e a b t = omega (arith, ap (λ (x : ℕ). K * x) e)

      less : (u m r : ℕ) → u * m ≤ r + u → u * (m - 1) ≤ r
      less u zero r h = omega arith
      less u (suc m) r h = rw (sub-one (suc m)) (omega arith)

pub rem-high : (z : ℕ) → z < 2 ^ 32 → high (2 ^ 42) (suc z) ≤ 3 * 2 ^ 92 * (rem z + 11)
unfolding rem
rem-high z h =
    go (2 ^ 92) (cut z) (4 * z - cut z) (high (2 ^ 42) (suc z)) (omega (arith, cut_small z h)) (cut-near z h).0 (omega (arith, high_is (2 ^ 42) (suc z) (omega arith)))
    (tail (z * z * z) (z * z) (mul-le-mul (mul-le-mul below below) below) (mul-le-mul below below)) where
      below : z ≤ 2 ^ 32
      below = omega arith

      tail : (x y : ℕ) → x ≤ 2 ^ 32 * 2 ^ 32 * 2 ^ 32 → y ≤ 2 ^ 32 * 2 ^ 32 → x + (1023 * 2 ^ 16 + 3072) * y + 3072 * z + 1024 ≤ 18 * 2 ^ 92
      tail x y p q = omega arith

      go : (K c m r : ℕ) → m + c ≡ 4 * z → K * c + 341 * (z * z * z) ≤ (2 ^ 51 + 341 * 2 ^ 16) * (z * z) + K →
          r + 3 * 2 ^ 51 * (suc z * suc z) ≡ 12 * K * suc z + 1024 * (suc z * suc z * suc z) + 3 * 2 ^ 51 * suc z →
          z * z * z + (1023 * 2 ^ 16 + 3072) * (z * z) + 3072 * z + 1024 ≤ 18 * K → r ≤ 3 * K * (m + 11)
      go K c m r e a b t = omega (arith, ap (λ (x : ℕ). K * x) e)

-- one more z takes at most one more off
cut_step : (z : ℕ) → suc z < 2 ^ 32 → cut (suc z) ≤ cut z + 1
unfolding cut
cut_step z h = go (z * z / 2 ^ 36) (suc z * suc z / 2 ^ 36) (2 ^ 35 - 341 * (z / 2 ^ 16)) (2 ^ 35 - 341 * (suc z / 2 ^ 16)) (omega arith) (omega arith) (omega arith) where
  go : (q p g h : ℕ) → p ≤ q + 1 → h ≤ g → g ≤ 2 ^ 35 → (p * h + (2 ^ 40 - 1)) / 2 ^ 40 ≤ (q * g + (2 ^ 40 - 1)) / 2 ^ 40 + 1
  go q p g h a b d = omega (arith, mul-le-mul a b)

pub rem_mono : (z y : ℕ) → z ≤ y → y < 2 ^ 32 → rem z ≤ rem y
unfolding rem
rem_mono z y h l = rw (add-sub_of_le h) at (more (y - z) (omega arith)) where
  more : (d : ℕ) → z + d < 2 ^ 32 → rem z ≤ rem (z + d)
  more zero l = rw (add-zero z) (le_refl _)
  more (suc d) l = rw (add-suc z d) (le_trans (more d (omega arith)) (omega (arith, cut_step (z + d) (omega arith))))
