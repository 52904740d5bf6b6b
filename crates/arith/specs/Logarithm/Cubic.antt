-- The two cubics, near 3072 Z^3 ln (1 + z / Z), whose steps are above 3072 Z^3 / (Z + z) and below 3072 Z^3 / (Z + z + 1).
use Rattle.std.specs.Prelude.{◌≡◌, ℕ, suc, ◌+◌, ◌-◌, ◌*◌, ◌<◌, ◌≤◌}
use Rattle.std.proofs.Common.{ap, mul-le-mul_left, arith}

-- z / Z - z^2 / 2 Z^2 + z^3 / 3 Z^3 + z / 2 Z^2
unfoldable pub high : ℕ → ℕ → ℕ
high Z z = 3072 * (Z * Z * z) + 1024 * (z * z * z) + 1536 * (Z * z) - 1536 * (Z * (z * z))

-- z / Z - z^2 / 2 Z^2 + 341/1024 z^3 / Z^3 - z / 2 Z^2
unfoldable pub low : ℕ → ℕ → ℕ
low Z z = 3072 * (Z * Z * z) + 1023 * (z * z * z) - 1536 * (Z * (z * z)) - 1536 * (Z * z)

pub high_is : (Z z : ℕ) → z ≤ Z → high Z z + 1536 * (Z * (z * z)) ≡ 3072 * (Z * Z * z) + 1024 * (z * z * z) + 1536 * (Z * z)
unfolding high
high_is Z z h = omega (arith, mul-le-mul_left (Z * z) h)

pub low_is : (Z z : ℕ) → z < Z → low Z z + 1536 * (Z * (z * z)) + 1536 * (Z * z) ≡ 3072 * (Z * Z * z) + 1023 * (z * z * z)
unfolding low
low_is Z z h = omega (arith, mul-le-mul_left (Z * z) h)

pub low-zero : (Z : ℕ) → low Z 0 ≡ 0
unfolding low
low-zero Z = omega arith

pub high-step : (Z z : ℕ) → z < Z → 3072 * (Z * Z * Z) + high Z z * (Z + z) ≤ high Z (suc z) * (Z + z)
high-step Z z h = go (high Z z) (high Z (suc z)) (omega (arith, high_is Z z (omega arith), high_is Z (suc z) h)) where
  go : (r q : ℕ) → q + 3072 * (Z * z) ≡ r + 3072 * (Z * Z) + 1024 * (3 * (z * z) + 3 * z + 1) → 3072 * (Z * Z * Z) + r * (Z + z) ≤ q * (Z + z)
  go r q e = omega (arith, ap (λ (x : ℕ). x * (Z + z)) e)

pub low_step : (Z z : ℕ) → 1023 * suc z ≤ Z → low Z (suc z) * (Z + suc z) ≤ 3072 * (Z * Z * Z) + low Z z * (Z + suc z)
low_step Z z h = go (low Z z) (low Z (suc z)) (omega (arith, low_is Z z (omega arith), low_is Z (suc z) (omega arith))) where
  go : (r q : ℕ) → q + 3072 * (Z * suc z) ≡ r + 3072 * (Z * Z) + 1023 * (3 * (z * z) + 3 * z + 1) → q * (Z + suc z) ≤ 3072 * (Z * Z * Z) + r * (Z + suc z)
  go r q e = omega (arith, mul-le-mul_left (suc z * suc z) h, ap (λ (x : ℕ). x * (Z + suc z)) e)
