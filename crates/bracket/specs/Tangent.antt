-- A sum's tangent lies below it, and a sum depends on a / b alone.
use Rattle.std.specs.Prelude.{ℕ, zero, suc, ◌+◌, ◌-◌, ◌*◌, ◌^◌, ◌≤◌, ◌<◌, ◌≡◌}
use Rattle.std.proofs.Common.{mul-le-mul_left, mul-pos, add-sub_of_le, arith}
use Rattle.std.proofs.Math.Nat.{pow-zero, pow-succ'}
use Rattle.bracket.specs.Series.{pw, num, top, bot}

pub pw_pos : (n b : ℕ) → 0 < b → 0 < pw n b
unfolding pw
pw_pos zero b h = omega arith
pw_pos (suc n) b h = mul-pos (omega arith) (mul-pos (mul-pos h h) (pw_pos n b h))

pub bot_pos : (n b : ℕ) → 0 < b → 0 < bot n b
unfolding bot
bot_pos n b h = mul-pos (mul-pos (omega arith) h) (pw_pos n b h)

pub square : (x y : ℕ) → 2 * (x * y) ≤ x * x + y * y
square zero y = omega arith
square (suc x) zero = omega arith
square (suc x) (suc y) = omega (arith, square x y)

-- the power's tangent at x, at y
odd : (n x y : ℕ) → x * pw n x + (2 * n + 1) * (y * pw n x) ≤ y * pw n y + (2 * n + 1) * (x * pw n x)
unfolding pw
odd zero x y = omega arith
odd (suc n) x y = omega (arith, step (2 * n + 1) (pw n x) (pw n y) (odd n x y)) where
  step : (c P Q : ℕ) → x * P + c * (y * P) ≤ y * Q + c * (x * P) → x * (c * (x * x * P)) + (c + 2) * (y * (c * (x * x * P))) ≤ y * (c * (y * y * Q)) + (c + 2) * (x * (c * (x * x * P)))
  step c P Q h = omega (arith, mul-le-mul_left (c * (y * y)) h, mul-le-mul_left (c * ((x + c * (x + y)) * P)) (square x y))

-- the sum's tangent at x / B, at y / B: its slope is 2 (1 - t^(2n)) / (1 - t^2), with 1 - t^2 = E / B^2
tangent : (n x y B E : ℕ) → B * B ≡ E + x * x →
    num n x B * E + 2 * B * y * pw n B + 2 * B * x * pw n x ≤ num n y B * E + 2 * B * x * pw n B + 2 * B * y * pw n x
unfolding num pw
tangent zero x y B E h = omega arith
tangent (suc n) x y B E h =
    rw h (step _ _ _ _ _ _ _ _ _ _ _ _ _ (tangent n x y B E h) (slope _ _ _ _ _ (odd n x y))) where
      slope : (c X W P Q : ℕ) → x * P + c * (y * P) ≤ y * Q + c * (x * P) →
          W * (x * P) * E + W * x * (c * (X * P)) + c * (E + X) * (W * y * P) ≤ W * (y * Q) * E + W * y * (c * (X * P)) + c * (E + X) * (W * x * P)
      slope c X W P Q o = omega (arith, mul-le-mul_left (W * E) o)

      step : (c S N M D u v p q r r' w w' : ℕ) → N * E + v * D + w ≤ M * E + u * D + w' → p * E + r + c * S * w' ≤ q * E + r' + c * S * w →
          (c * S * N + p) * E + v * (c * (S * D)) + r ≤ (c * S * M + q) * E + u * (c * (S * D)) + r'
      step c S N M D u v p q r r' w w' t o = omega (arith, mul-le-mul_left (c * S) t)

-- with the slope 2 / (1 - t^2): the sums downwards
pub num_line : (n x y B E : ℕ) → B * B ≡ E + x * x → y ≤ x → num n x B * E + 2 * B * y * pw n B ≤ num n y B * E + 2 * B * x * pw n B
num_line n x y B E h l = omega (arith, tangent n x y B E h, mul-le-mul_left (2 * B * pw n x) l)

-- and those with 9/8 of a term upwards, where t is at most 1/3
pub top_line : (n x y B E : ℕ) → B * B ≡ E + x * x → x ≤ y → 8 * (B * B) ≤ 9 * E → top n x B * E + 2 * B * y * bot n B ≤ top n y B * E + 2 * B * x * bot n B
unfolding top bot
top_line n x y B E h l h8 = rw (← add-sub_of_le l) (at (y - x)) where
  at : (d : ℕ) → top n x B * E + 2 * B * (x + d) * bot n B ≤ top n (x + d) B * E + 2 * B * x * bot n B
  at d = step _ _ _ _ _ _ _ _ _ (tangent n x (x + d) B E h) (third _ _ _ (odd n x (x + d))) where
    third : (c P Q : ℕ) → x * P + c * ((x + d) * P) ≤ (x + d) * Q + c * (x * P) →
        9 * (x * P) * E + 4 * c * B * (2 * B * (x + d) * P) ≤ 9 * ((x + d) * Q) * E + 4 * c * B * (2 * B * x * P)
    third c P Q o = omega (arith, mul-le-mul_left (9 * E) o, mul-le-mul_left (c * d * P) h8)

    step : (k N M D P u v p q : ℕ) → N * E + v * D + u * P ≤ M * E + u * D + v * P → p * E + k * (v * P) ≤ q * E + k * (u * P) → (k * N + p) * E + v * (k * D) ≤ (k * M + q) * E + u * (k * D)
    step k N M D P u v p q t o = omega (arith, mul-le-mul_left k t)

-- a sum depends on a / b alone: both parts of the fraction at (a c) / (b c) have the factor (c c)^n
pw_scale : (n a c : ℕ) → pw n (a * c) ≡ pw n a * (c * c) ^ n
unfolding pw
pw_scale zero a c = rw pow-zero
pw_scale (suc n) a c = rw (pw_scale n a c, pow-succ' (c * c) n) (omega arith)

num_scale : (n a b c : ℕ) → num n (a * c) (b * c) ≡ num n a b * (c * c) ^ n
unfolding num
num_scale zero a b c = omega arith
num_scale (suc n) a b c = rw (num_scale n a b c, pw_scale n a c, pow-succ' (c * c) n) (omega arith)

pub num-same : (n a b c : ℕ) → num n (a * c) (b * c) * pw n b ≡ num n a b * pw n (b * c)
num-same n a b c = rw (num_scale n a b c, pw_scale n b c) (omega arith)

pub top-same : (n a b c : ℕ) → top n (a * c) (b * c) * bot n b ≡ top n a b * bot n (b * c)
unfolding top bot
top-same n a b c = rw (num_scale n a b c, pw_scale n a c, pw_scale n b c) (omega arith)
