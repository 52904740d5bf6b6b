-- In a cell of the table: the entry and the remainder are within 13 units of every sum and 2 of every one with 9/8 of a term.
-- The point is (a + c) / c; in units of 2^-53 of c it is the cell's start, z steps and a part of one.
use Rattle.std.specs.Prelude.{ℕ, suc, ◌+◌, ◌-◌, ◌*◌, ◌^◌, ◌≤◌, ◌<◌, ◌≡◌, get_or}
use Rattle.std.proofs.Common.{sym, mul-le-mul_left, mul-le-mul_right, le_of_eq, le_refl, arith, lit<}
use Rattle.std.proofs.Math.Nat.{le_of_mul-le-mul_left}
use Rattle.std.specs.Float.Ieee.Positive.{through}
use Rattle.arith.specs.Logarithm.{tab, rem}
use Rattle.bracket.specs.Series.{pw, num, top, bot}
use Rattle.bracket.specs.Tangent.{pw_pos, bot_pos, num-same, top-same}
use Rattle.bracket.specs.Grid.{Under, Over, under, over}
use Rattle.arith.specs.Logarithm.Cubic.{high, low, low-zero, high-step, low_step}
use Rattle.arith.specs.Logarithm.Rem.{rem-high, rem-low}
use Rattle.bracket.proofs.Entries.{entry-under, entry-over}

-- the grid's values are in units of 2^-44 / u, so that its F is 2^44 u
abbrev u : ℕ
u = 3 * 2 ^ 92

abbrev F : ℕ
F = 3072 * (2 ^ 42 * 2 ^ 42 * 2 ^ 42)

module _ (n i c z g a : ℕ) (hi : i < 1024) (hc : 0 < c) (hz : z < 2 ^ 32) (at : i * (2 ^ 43 * c) + 2 * (1024 + i) * c * z + g ≡ a * 2 ^ 53) where
  -- the denominators at the cell's start and at the point
  first : (2048 + i) * (2 ^ 43 * c) ≡ i * (2 ^ 43 * c) + 2 * (2 ^ 53 * c)
  first = omega arith

  here : (a + 2 * c) * 2 ^ 53 ≡ a * 2 ^ 53 + 2 * (2 ^ 53 * c)
  here = omega arith

  pub cell-under : g ≤ 2 * (1024 + i) * c → num n a (a + 2 * c) * 2 ^ 44 ≤ (get_or tab i 0 + 2 + (rem z + 11)) * pw n (a + 2 * c)
  cell-under hg = from (get_or tab i 0 + 2) (entry-under n i hi) where
    fine : (u t N P x w : ℕ) → N * t ≤ x * P → t * u * N ≤ (u * x + w) * P
    fine u t N P x w h = omega (arith, mul-le-mul_left u h)

    coarse : (u t N P x w y : ℕ) → 0 < u → t * u * N ≤ (u * x + w) * P → w ≤ u * y → N * t ≤ (x + y) * P
    coarse u t N P x w y p h l = le_of_mul-le-mul_left {k = u} (omega (arith, mul-le-mul_right P l)) p

    from : (x : ℕ) → num n i (2048 + i) * 2 ^ 44 ≤ x * pw n (2048 + i) → num n a (a + 2 * c) * 2 ^ 44 ≤ (x + (rem z + 11)) * pw n (a + 2 * c)
    from x entry =
        through _ _ _ _ _ _ (pw_pos n ((a + 2 * c) * 2 ^ 53) (omega arith)) (le_of_eq (sym (num-same n a (a + 2 * c) (2 ^ 53))))
        (rw here (coarse u (2 ^ 44) _ _ x _ (rem z + 11) (lit< tt) (rw at at grid) (rem-high z hz))) where
          grid : Under n (2 ^ 53 * c) F (i * (2 ^ 43 * c) + 2 * (1024 + i) * c * z + g) (u * x + high (2 ^ 42) (suc z))
          grid =
              under n (2 ^ 53 * c) (i * (2 ^ 43 * c)) (2 * (1024 + i) * c) (2 ^ 42) F (u * x) (omega arith) (omega arith) (high (2 ^ 42)) (2 ^ 42) (high-step (2 ^ 42))
              (rw (← first) (fine u (2 ^ 44) _ _ x _ (through _ _ _ _ _ _ (pw_pos n (2048 + i) (omega arith)) (le_of_eq (num-same n i (2048 + i) (2 ^ 43 * c))) entry))) z g (omega arith) hg

  pub cell-over : a ≤ c → (get_or tab i 0 - 1 + (rem z - 1)) * bot n (a + 2 * c) ≤ top n a (a + 2 * c) * 2 ^ 44
  cell-over ha = from (get_or tab i 0 - 1) (entry-over n i hi) where
    fine : (u t N P x w : ℕ) → w ≡ 0 → x * P ≤ N * t → (u * x + w) * P ≤ t * u * N
    fine u t N P x w e h = rw e (omega (arith, mul-le-mul_left u h))

    coarse : (u t N P x w y : ℕ) → 0 < u → (u * x + w) * P ≤ t * u * N → u * y ≤ w → (x + y) * P ≤ N * t
    coarse u t N P x w y p h l = le_of_mul-le-mul_left {k = u} (omega (arith, mul-le-mul_right P l)) p

    from : (x : ℕ) → x * bot n (2048 + i) ≤ top n i (2048 + i) * 2 ^ 44 → (x + (rem z - 1)) * bot n (a + 2 * c) ≤ top n a (a + 2 * c) * 2 ^ 44
    from x entry =
        through _ _ _ _ _ _ (bot_pos n ((a + 2 * c) * 2 ^ 53) (omega arith)) (rw here (coarse u (2 ^ 44) _ _ x _ (rem z - 1) (lit< tt) (rw at at grid) (rem-low z hz)))
        (le_of_eq (top-same n a (a + 2 * c) (2 ^ 53))) where
          grid : Over n (2 ^ 53 * c) F (i * (2 ^ 43 * c) + 2 * (1024 + i) * c * z + g) (u * x + low (2 ^ 42) z)
          grid =
              over n (2 ^ 53 * c) (i * (2 ^ 43 * c)) (2 * (1024 + i) * c) (2 ^ 42) F (u * x) (omega arith) (omega arith) (low (2 ^ 42)) z (λ (y : ℕ) (l : y < z). low_step (2 ^ 42) y (omega arith))
              (rw (← first) (fine u (2 ^ 44) _ _ x (low (2 ^ 42) 0) (low-zero (2 ^ 42)) (through _ _ _ _ _ _ (bot_pos n (2048 + i) (omega arith)) entry (le_of_eq (sym (top-same n i (2048 + i) (2 ^ 43 * c))))))) z g (le_refl z) (omega arith)
