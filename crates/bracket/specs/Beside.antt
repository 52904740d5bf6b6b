-- Bounds at a point for every number of terms, and what is left of them at a point beside it.
-- A point c + a over c, from 1 to 2, stands for the fraction a / (a + 2 c).
use Rattle.std.specs.Prelude.{ℕ, zero, suc, ◌+◌, ◌-◌, ◌*◌, ◌^◌, ◌≤◌, ◌<◌, ◌≡◌}
use Rattle.std.proofs.Common.{lt_of_not-le, not-le_of_lt, mul_comm, mul-pos}
use Rattle.std.proofs.Math.Nat.{mul-le-mul, mul-le-mul_left, lt_of_mul-lt-mul_right, pow-succ'}
use Rattle.std.proofs.Math.Decide.{dec_le}
use native.Mathlib.Omega.{arith}
use Rattle.std.specs.Float.Ieee.Positive.{through}
use Rattle.bracket.specs.Series.{pw, num, top, bot}
use Rattle.bracket.specs.Tangent.{pw_pos, bot_pos}
use Rattle.bracket.specs.Tail.{apart}
use Rattle.bracket.specs.Rise.{num-up, top_up}
use Rattle.bracket.specs.Grid.{Under, Over}

-- no sum is above `high` units of 2^-44, and none with 9/8 of the next term is below `low`
pub record Between (c a low high : ℕ) : Type 0 where
  pub under : (n : ℕ) → Under n c (2 ^ 44) a high
  pub over : (n : ℕ) → Over n c (2 ^ 44) a low

-- ---- 9/8 of the term after the first 14 is less than a unit

ninths : (n a b : ℕ) → 3 * a ≤ b → 9 ^ n * pw n a ≤ pw n b
unfolding pw
ninths zero a b h = omega arith
ninths (suc n) a b h = rw (pow-succ' 9 n) (omega (arith, mul-le-mul_left (2 * n + 1) (mul-le-mul (mul-le-mul h h) (ninths n a b h))))

module _ (c a : ℕ) (hc : 0 < c) (small : a ≤ c) where
  abbrev A : ℕ
  A = a + 2 * c

  three : 3 * a ≤ A
  three = omega arith

  short : 2 ^ 44 * (9 * (a * pw 14 a)) < bot 14 A
  unfolding bot
  short = omega (arith, go (a * pw 14 a) (A * pw 14 A) (omega (arith, mul-le-mul three (ninths 14 a A three))) (mul-pos (omega arith) (pw_pos 14 A (omega arith))))
    where
      go : (x y : ℕ) → 3 * (9 ^ 14 * x) ≤ y → 0 < y → 2 ^ 44 * (9 * x) < 116 * y
      go x y h p = omega arith

  top_below : (high : ℕ) → Under 14 c (2 ^ 44) a high → 2 ^ 44 * top 14 a A < (high + 1) * bot 14 A
  unfolding top bot
  top_below high h = omega (arith, short, mul-le-mul_left (116 * A) h)

  num-above : (low : ℕ) → Over 14 c (2 ^ 44) a (suc low) → low * pw 14 A < 2 ^ 44 * num 14 a A
  unfolding top bot
  num-above low h = lt_of_mul-lt-mul_right (116 * A) (omega (arith, short))

-- ---- from the point v to the point a, at most one part in 2^44 off
module _ (c a v : ℕ) (hc : 0 < c) (small : a ≤ c) (v-small : v ≤ c) (up : 2 ^ 44 * a ≤ 2 ^ 44 * v + (v + c)) (down : 2 ^ 44 * v ≤ 2 ^ 44 * a + (a + c)) where
  under_at : (n high : ℕ) → ((n : ℕ) → Under n c (2 ^ 44) v high) → Under n c (2 ^ 44) a (high + 1)
  under_at n high h = elim (dec_le v a) [
    | yes l ↦ num-up n c a v hc (2 ^ 44) high (high + 1) l (omega arith) (h n)
    | no g ↦
        let less : 2 ^ 44 * top 14 a (a + 2 * c) < (high + 1) * bot 14 (a + 2 * c) =
        lt_of_not-le (λ w. not-le_of_lt (top_below c v hc v-small high (h 14)) (top_up 14 c a v hc (2 ^ 44) (high + 1) (high + 1) (omega arith) small (omega arith) w)) in
        rw (mul_comm (2 ^ 44) (num n a (a + 2 * c))) (through _ (top 14 a (a + 2 * c)) _ _ _ _ (bot_pos 14 (a + 2 * c) (omega arith)) (apart a (a + 2 * c) (omega arith) (omega arith) n 14) (omega arith))
  ]

  over-at : (n low : ℕ) → ((n : ℕ) → Over n c (2 ^ 44) v (suc (suc low))) → Over n c (2 ^ 44) a low
  over-at n low h = elim (dec_le v a) [
    | yes l ↦ omega (arith, top_up n c v a hc (2 ^ 44) (suc (suc low)) (suc (suc low)) l v-small (omega arith) (h n))
    | no g ↦
        let more : low * pw 14 (a + 2 * c) < 2 ^ 44 * num 14 a (a + 2 * c) =
        lt_of_not-le (λ w. not-le_of_lt (num-above c v hc v-small (suc low) (h 14)) (num-up 14 c v a hc (2 ^ 44) low (suc low) (omega arith) (omega arith) w)) in
        rw (mul_comm (2 ^ 44) (top n a (a + 2 * c))) (through _ (num 14 a (a + 2 * c)) _ _ _ _ (pw_pos 14 (a + 2 * c) (omega arith)) (omega arith) (apart a (a + 2 * c) (omega arith) (omega arith) 14 n))
  ]

  pub beside : (low high : ℕ) → Between c v low high → Between c a (low - 2) (high + 1)
  beside low high b = record {
    under = λ n. under_at n high b.under;
    over = λ n. elim (dec_le 2 low) [
      | yes l ↦ let back : suc (suc (low - 2)) ≡ low = omega arith in over-at n (low - 2) (rw back b.over)
      | no g ↦ let none : low - 2 ≡ 0 = omega arith in rw none (omega arith)
    ];
  }
