-- At one point a / b of at most 1/3 each sum is at most each one with 9/8 of the next term.
use Prim.Native.Nat.{ℕ, zero, suc, ◌+◌, ◌*◌, ◌≤◌, ◌<◌}
use Rattle.std.specs.Prelude.{◌≡◌}
use Rattle.std.proofs.Math.Nat.{mul-le-mul_left, mul-le-mul_right, mul-le-mul, le_of_mul-le-mul_left}
use Rattle.std.proofs.Common.{mul-pos, add-suc, add-zero, add_comm}
use native.Mathlib.Omega.{arith}
use Rattle.bracket.specs.Series.{pw, num, top, bot}

down : (P : ℕ → Type 0) → ((n : ℕ) → P (suc n) → P n) → (n j : ℕ) → P (n + j) → P n
down P f n zero p = rw (add-zero n) at p
down P f n (suc j) p = down P f n j (f (n + j) (rw (add-suc n j) at p))

module _ (a b : ℕ) (hb : 0 < b) (h3 : 3 * a ≤ b) where
  Apart : ℕ → ℕ → Type 0
  Apart n k = num n a b * bot k b ≤ top k a b * pw n b

  factor : (n : ℕ) → 0 < (2 * n + 1) * (b * b)
  factor n = mul-pos (omega arith) (mul-pos hb hb)

  -- the sums rise with the terms
  rises : (k n : ℕ) → Apart (suc n) k → Apart n k
  unfolding Apart num pw
  rises k n h = le_of_mul-le-mul_left {k = (2 * n + 1) * (b * b)} (omega arith) (factor n)

  -- with 9/8 of the next term they fall
  falls : (n k : ℕ) → Apart n (suc k) → Apart n k
  unfolding Apart
  falls n k h = le_of_mul-le-mul_left {k = (2 * suc k + 1) * (b * b)} (omega (arith, rw bots at h, mul-le-mul_right (pw n b) tops)) (factor (suc k)) where
    bots : bot (suc k) b ≡ (2 * suc k + 1) * (b * b) * bot k b
    bots = unfold bot pw in omega arith

    tops : top (suc k) a b ≤ (2 * suc k + 1) * (b * b) * top k a b
    tops = unfold top num pw in at (num k a b) (pw k a) (omega (arith, mul-le-mul h3 h3)) where
      at : (N G : ℕ) → 9 * (a * a) ≤ b * b →
          4 * (2 * suc k + 1) * b * ((2 * k + 1) * (b * b) * N + 2 * b * (a * G)) + 9 * (a * ((2 * k + 1) * (a * a * G))) ≤ (2 * suc k + 1) * (b * b) * (4 * (2 * k + 1) * b * N + 9 * (a * G))
      at N G nine = omega (arith, mul-le-mul_left ((2 * k + 1) * (a * G)) nine, mul-le-mul_left (a * G) nine)

  meets : (n : ℕ) → Apart n n
  unfolding Apart top bot
  meets n = omega arith

  pub apart : (n k : ℕ) → num n a b * bot k b ≤ top k a b * pw n b
  unfolding Apart
  apart n k = down (λ (m : ℕ). Apart m k) (rises k) n k (down (Apart (n + k)) (falls (n + k)) k n (rw (add_comm k n) (meets (n + k))))
