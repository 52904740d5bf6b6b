-- The odd series of 2 atanh t at t = a / b: t + t^3 / 3 + t^5 / 5 + .., twice. Its sum of n terms is num n a b / pw n b, and with 9/8 of the next term it is top n a b / bot n b. Definitions only.
use Rattle.std.specs.Prelude.{ℕ, zero, suc, ◌+◌, ◌*◌, ◌^◌, ◌≤◌}

-- 1 * 3 * .. * (2n - 1) * a^(2n)
unfoldable pub pw : ℕ → ℕ → ℕ
pw zero a = 1
pw (suc n) a = (2 * n + 1) * (a * a * pw n a)

unfoldable pub num : ℕ → ℕ → ℕ → ℕ
num zero a b = 0
num (suc n) a b = (2 * n + 1) * (b * b) * num n a b + 2 * b * (a * pw n a)

unfoldable pub top : ℕ → ℕ → ℕ → ℕ
top n a b = 4 * (2 * n + 1) * b * num n a b + 9 * (a * pw n a)

unfoldable pub bot : ℕ → ℕ → ℕ
bot n b = 4 * (2 * n + 1) * b * pw n b

-- r units of 2^-44 within 2^-40, which is 16 units, of the bracket of k ln 2 + 2 atanh (a / b), with i terms of ln 2 = 2 atanh (1/3) and j of the other:
-- the sums are at most r and 16 units, and r is at most the sums with 9/8 of each next term and 16 units
pub record Near (i j k a b r : ℕ) : Type 0 where
  pub lower : (k * num i 1 3 * pw j b + num j a b * pw i 3) * 2 ^ 44 ≤ (r + 16) * (pw i 3 * pw j b)
  pub upper : r * (bot i 3 * bot j b) ≤ (k * top i 1 3 * bot j b + top j a b * bot i 3) * 2 ^ 44 + 16 * (bot i 3 * bot j b)
