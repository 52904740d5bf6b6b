-- From one point to another: ln u + 1 <= ln v + u / v, of the sums where u is above v, of those with 9/8 of a term where u is below v.
-- A point u over s, from 1 to 2, is s + a, and stands for the fraction a / (a + 2 s).
use Rattle.std.specs.Prelude.{ℕ, ◌+◌, ◌*◌, ◌≤◌, ◌<◌, ◌≡◌}
use Rattle.std.proofs.Common.{ap, mul-le-mul_left, mul-le-mul_right, mul-pos, mul_comm, arith}
use Rattle.std.proofs.Math.Nat.{le_of_mul-le-mul_left}
use Rattle.bracket.specs.Series.{pw, num, top, bot}
use Rattle.bracket.specs.Tangent.{pw_pos, bot_pos, square, num_line, top_line, num-same, top-same}

-- The sums are G / D and H / D over one denominator, f / d and g / e by themselves; q / F and r / F are the bounds that go with v and u.
rise : (F q r G H D f d g e E X Y u v : ℕ) → 0 < E → 0 < v → 0 < D → G * E + Y * D ≤ H * E + X * D → E * v + X * v ≤ E * u + Y * v → F * u + q * v ≤ F * v + r * v →
    G * d ≡ f * D → H * e ≡ g * D → (F * f + q * d) * e ≤ (F * g + r * e) * d
rise F q r G H D f d g e E X Y u v pE pv pD line slope step same-u same-v =
    le_of_mul-le-mul_left {k = D} (omega (arith, mul-le-mul_left (d * e) two, ap (λ (w : ℕ). F * e * w) same-u, ap (λ (w : ℕ). F * d * w) same-v)) pD where
      one : G * v + v * D ≤ H * v + u * D
      one = le_of_mul-le-mul_left {k = E} (omega (arith, mul-le-mul_left v line, mul-le-mul_left D slope)) pE

      two : F * G + q * D ≤ F * H + r * D
      two = le_of_mul-le-mul_left {k = v} (omega (arith, mul-le-mul_left F one, mul-le-mul_left D step)) pv

-- the points s + a and s + c, with t at the first: 1 - t^2 is E / (A C)^2
module _ (n s a c : ℕ) (hs : 0 < s) where
  abbrev A : ℕ
  A = a + 2 * s

  abbrev C : ℕ
  C = c + 2 * s

  abbrev E : ℕ
  E = C * C * (4 * s * (a + s))

  squares : A * C * (A * C) ≡ E + a * C * (a * C)
  squares = go C where
    go : (C : ℕ) → A * C * (A * C) ≡ C * C * (4 * s * (a + s)) + a * C * (a * C)
    go C = omega arith

  slope : E * (c + s) + 2 * (A * C) * (a * C) * (c + s) ≤ E * (a + s) + 2 * (A * C) * (c * A) * (c + s)
  slope = omega (arith, mul-le-mul_left C less) where
    less : C * (4 * s * (a + s)) * (c + s) + 2 * A * (a * C) * (c + s) ≤ C * (4 * s * (a + s)) * (a + s) + 2 * A * (c * A) * (c + s)
    less = omega (arith, mul-le-mul_left (4 * (s * s)) (square a c))

  pos_E : 0 < E
  pos_E = mul-pos (mul-pos (omega arith) (omega arith)) (mul-pos (mul-pos (omega arith) hs) (omega arith))

  pos_AC : 0 < A * C
  pos_AC = mul-pos (omega arith) (omega arith)

  -- a bound carried from c up to a, and one from a up to c
  pub num-up : (F q r : ℕ) → c ≤ a → F * (a + s) + q * (c + s) ≤ F * (c + s) + r * (c + s) → F * num n c C ≤ q * pw n C → F * num n a A ≤ r * pw n A
  num-up F q r l h b =
      go _ _ _ _ (pw_pos n C (omega arith))
      (rise F q r _ _ _ _ _ _ _ _ _ _ _ _ pos_E (omega arith) (pw_pos n (A * C) pos_AC) (num_line n (a * C) (c * A) (A * C) E squares (omega (arith, mul-le-mul_left s l))) slope h
      (num-same n a A C) (rw (mul_comm A C) (num-same n c C A))) b where
        go : (f d g e : ℕ) → 0 < e → (F * f + q * d) * e ≤ (F * g + r * e) * d → F * g ≤ q * e → F * f ≤ r * d
        go f d g e p h b = le_of_mul-le-mul_left {k = e} (omega (arith, mul-le-mul_right d b)) p

  pub top_up : (F q r : ℕ) → a ≤ c → a ≤ s → F * (a + s) + q * (c + s) ≤ F * (c + s) + r * (c + s) → r * bot n A ≤ F * top n a A → q * bot n C ≤ F * top n c C
  top_up F q r l small h b =
      go _ _ _ _ (bot_pos n A (omega arith))
      (rise F q r _ _ _ _ _ _ _ _ _ _ _ _ pos_E (omega arith) (bot_pos n (A * C) pos_AC) (top_line n (a * C) (c * A) (A * C) E squares (omega (arith, mul-le-mul_left s l)) third) slope h
      (top-same n a A C) (rw (mul_comm A C) (top-same n c C A))) b where
        go : (f d g e : ℕ) → 0 < d → (F * f + q * d) * e ≤ (F * g + r * e) * d → r * d ≤ F * f → q * e ≤ F * g
        go f d g e p h b = le_of_mul-le-mul_left {k = d} (omega (arith, mul-le-mul_right e b)) p

        third : 8 * (A * C * (A * C)) ≤ 9 * E
        third = by C (omega (arith, mul-le-mul_left a small, mul-le-mul_left s small)) where
          by : (C : ℕ) → 8 * (A * A) ≤ 9 * (4 * s * (a + s)) → 8 * (A * C * (A * C)) ≤ 9 * (C * C * (4 * s * (a + s)))
          by C h = omega (arith, mul-le-mul_left (C * C) h)
