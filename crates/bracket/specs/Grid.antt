-- Bounds carried over a grid: the points p (Z + z) over s, of which the first is s + a, so that a step from z is by the factor 1 + 1 / (Z + z) whatever p is; and a part of a step on.
use Rattle.std.specs.Prelude.{ℕ, zero, suc, ◌+◌, ◌*◌, ◌≤◌, ◌<◌, ◌≡◌}
use Rattle.std.proofs.Common.{ap, mul-le-mul_left, le_refl, mul-zero, add-zero, arith}
use Rattle.bracket.specs.Series.{pw, num, top, bot}
use Rattle.bracket.specs.Rise.{num-up, top_up}

-- at the point x the sum is at most r / F
abbrev pub Under : ℕ → ℕ → ℕ → ℕ → ℕ → Type 0
Under n s F x r = F * num n x (x + 2 * s) ≤ r * pw n (x + 2 * s)

-- and r / F at most the one with 9/8 of a term
abbrev pub Over : ℕ → ℕ → ℕ → ℕ → ℕ → Type 0
Over n s F x r = r * bot n (x + 2 * s) ≤ F * top n x (x + 2 * s)

-- r z / F more than w / F, which is the bound at the start
module _ (n s a p Z F w : ℕ) (hs : 0 < s) (hu : a + s ≡ p * Z) (r : ℕ → ℕ) where
  part : (z g : ℕ) → F + r z * (Z + z) ≤ r (suc z) * (Z + z) → g ≤ p → Under n s F (a + p * z) (w + r z) → Under n s F (a + p * z + g) (w + r (suc z))
  part z g h l = num-up n s (a + p * z + g) (a + p * z) hs F (w + r z) (w + r (suc z)) (omega arith) (go (r z) (r (suc z)) h) where
    go : (q r : ℕ) → F + q * (Z + z) ≤ r * (Z + z) → F * (a + p * z + g + s) + (w + q) * (a + p * z + s) ≤ F * (a + p * z + s) + (w + r) * (a + p * z + s)
    go q r h = omega (arith, mul-le-mul_left p h, mul-le-mul_left F l, ap (λ (x : ℕ). q * x) hu, ap (λ (x : ℕ). r * x) hu)

  module _ (m : ℕ) (h : (z : ℕ) → z < m → F + r z * (Z + z) ≤ r (suc z) * (Z + z)) (start : Under n s F a (w + r 0)) where
    unders : (z : ℕ) → z ≤ m → Under n s F (a + p * z) (w + r z)
    unders zero l = rw (mul-zero p, add-zero a) start
    unders (suc z) l = rw next (part z p (h z l) (le_refl p) (unders z (omega arith))) where
      next : a + p * suc z ≡ a + p * z + p
      next = omega arith

    pub under : (z g : ℕ) → z < m → g ≤ p → Under n s F (a + p * z + g) (w + r (suc z))
    under z g l k = part z g (h z l) k (unders z (omega arith))

  module _ (m : ℕ) (h : (z : ℕ) → z < m → r (suc z) * (Z + suc z) ≤ F + r z * (Z + suc z)) (start : Over n s F a (w + r 0)) where
    overs : (z : ℕ) → z ≤ m → a + p * z ≤ s → Over n s F (a + p * z) (w + r z)
    overs zero l k = rw (mul-zero p, add-zero a) start
    overs (suc z) l k =
        top_up n s (a + p * z) (a + p * suc z) hs F (w + r (suc z)) (w + r z) (omega arith) (omega arith) (go (r z) (r (suc z)) (h z l)) (overs z (omega arith) (omega arith)) where
          go : (r q : ℕ) → q * (Z + suc z) ≤ F + r * (Z + suc z) → F * (a + p * z + s) + (w + q) * (a + p * suc z + s) ≤ F * (a + p * suc z + s) + (w + r) * (a + p * suc z + s)
          go r q h = omega (arith, mul-le-mul_left p h, ap (λ (x : ℕ). q * x) hu, ap (λ (x : ℕ). r * x) hu)

    pub over : (z g : ℕ) → z ≤ m → a + p * z ≤ s → Over n s F (a + p * z + g) (w + r z)
    over z g l k = top_up n s (a + p * z) (a + p * z + g) hs F (w + r z) (w + r z) (omega arith) k (omega arith) (overs z l k)
