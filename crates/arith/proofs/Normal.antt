-- One more than v, brought to 54 binary digits by shifts.
-- Assumes nothing.
use Rattle.std.proofs.Common.{◌≡◌, ℕ, suc, ◌+◌, ◌-◌, ◌*◌, ◌/◌, ◌%◌, ◌^◌, ◌<◌, ◌≤◌, sym, ◌∙◌, mul_assoc, arith, pow_pos, shl_exact}
use native.Mathlib.Nat.{mul-div-mul_right}
use lib.Pow.{shl-shr}
use lib.Ieee.{size}
use Rattle.arith.specs.Whole.Values.{parts}
use Rattle.arith.specs.Logarithm.{top_of, big_of}
use Rattle.arith.specs.Logarithm.Top.{top_is}

-- by its size
module _ (v z : ℕ) (is : z ≡ size (v + 1)) where
  top : z - 1 ≡ top_of (v + 1)
  unfolding top_of
  top = rw is

  pub left : z - 1 < 53 → ((v + 1) * 2 ^ (53 - (z - 1)) % 2 ^ 64 ≡ big_of (v + 1)) × (z - 1 ≡ top_of (v + 1))
  left l = (rw (← top) (go (z - 1) l (rw (← top) at (top_is (v + 1) (omega arith)).1)), top) where
    go : (k : ℕ) → k < 53 → v + 1 < 2 ^ suc k → (v + 1) * 2 ^ (53 - k) % 2 ^ 64 ≡ (v + 1) * 2 ^ 53 / 2 ^ k
    go k l h = shl_exact {a = v + 1} (suc k) (53 - k) 64 h (omega arith) ∙ sym (rw (parts 53 k (omega arith), ← mul_assoc) (shl-shr ((v + 1) * 2 ^ (53 - k)) k))

  pub right : 53 ≤ z - 1 → ((v + 1) / 2 ^ (z - 1 - 53) ≡ big_of (v + 1)) × (z - 1 ≡ top_of (v + 1))
  right l = (rw (← top) (go (z - 1) l), top) where
    go : (k : ℕ) → 53 ≤ k → (v + 1) / 2 ^ (k - 53) ≡ (v + 1) * 2 ^ 53 / 2 ^ k
    go k l = sym (rw (parts k 53 l) (mul-div-mul_right (v + 1) (2 ^ (k - 53)) (pow_pos 53)))
