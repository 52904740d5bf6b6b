-- From the units at one plus the age as a binary64 to the bracket at one plus the age itself. Above 2^53 the two may differ, by less than a unit of the logarithm.
use Rattle.std.specs.Prelude.{ℕ, suc, ◌+◌, ◌-◌, ◌*◌, ◌/◌, ◌^◌, ◌≤◌, ◌<◌, ◌≡◌}
use Rattle.std.proofs.Common.{sym, le_of_eq, lt_of_not-le, one-mul, arith, lit<, pow_pos, pow_mono}
use Rattle.std.proofs.Math.Decide.{dec_le}
use Rattle.std.specs.Float.Ieee.Positive.{through}
use Rattle.arith.specs.Whole.{rounded_of}
use Rattle.arith.specs.Whole.Rounding.{rounded_exact, rounded_width, rounded_close, rounded_reaches}
use Rattle.arith.specs.Logarithm.{ln2, units_of}
use Rattle.arith.specs.Logarithm.Top.{top-le, top-only, units_power}
use Rattle.bracket.specs.Series.{pw, num, top, bot, Near}
use Rattle.bracket.specs.Tangent.{pw_pos, bot_pos, num-same, top-same}
use Rattle.bracket.specs.Beside.{Between, beside}
use Rattle.bracket.specs.Accurate.{ln2-under, ln2-over, joined}
use Rattle.bracket.proofs.Accurate.{units_between}

-- where the power of two ends, the second part is ln 2
end : (c : ℕ) → 0 < c → Between c c (ln2 / 4096 - 1) (ln2 / 4096 + 2)
end c hc = record { under = λ n. rw three (below n); over = λ n. rw three (above n) }
  where
    three : c + 2 * c ≡ 3 * c
    three = omega arith

    below : (n : ℕ) → 2 ^ 44 * num n c (3 * c) ≤ (ln2 / 4096 + 2) * pw n (3 * c)
    below n =
        let all : num n c (3 * c) * 2 ^ 56 ≤ (ln2 + 2) * pw n (3 * c) =
        through _ _ _ _ _ _ (pw_pos n 3 (lit< tt)) (le_of_eq (rw one-mul at (num-same n 1 3 c))) (ln2-under n) in
        omega arith

    above : (n : ℕ) → (ln2 / 4096 - 1) * bot n (3 * c) ≤ 2 ^ 44 * top n c (3 * c)
    above n =
        let all : (ln2 - 1) * bot n (3 * c) ≤ top n c (3 * c) * 2 ^ 56 =
        through _ _ _ _ _ _ (bot_pos n 3 (lit< tt)) (ln2-over n) (le_of_eq (sym (rw one-mul at (top-same n 1 3 c)))) in
        omega arith

-- one part in 2^44 moves the logarithm by a unit at most
close : (age : ℕ) → (2 ^ 44 * rounded_of age ≤ 2 ^ 44 * age + age) × (2 ^ 44 * age ≤ 2 ^ 44 * rounded_of age + rounded_of age)
close age = go age (rounded_of age) (rounded_close age).0 (rounded_close age).1
  where
    go : (x y : ℕ) → 2 ^ 52 * y ≤ 2 ^ 52 * x + x → 2 ^ 52 * x ≤ 2 ^ 52 * y + x → (2 ^ 44 * y ≤ 2 ^ 44 * x + x) × (2 ^ 44 * x ≤ 2 ^ 44 * y + y)
    go x y h l = (omega (arith, h), omega (arith, l))

module _ (i j k age : ℕ) (fits : age < 2 ^ 64) (lo : 2 ^ k ≤ 1 + age) (hi : 1 + age < 2 ^ suc k) where
  abbrev c : ℕ
  c = 2 ^ k

  abbrev m : ℕ
  m = 1 + age

  abbrev v : ℕ
  v = rounded_of age + 1

  by_bounds : (low high : ℕ) → Between c (m - c) low high → k * ln2 / 4096 + high ≤ units_of v + 14 → units_of v ≤ k * ln2 / 4096 + low + 15 → Near i j k (m - c) (m + c) (units_of v)
  by_bounds low high b h l = let twice : m - c + 2 * c ≡ m + c = omega arith in rw twice at (joined i j k c (m - c) (units_of v) low high few b h l)
    where
      few : k ≤ 64
      few = rw (top-only m k lo hi) at (top-le m 64 (omega arith))

  same_power : v < 2 ^ suc k → Near i j k (m - c) (m + c) (units_of v)
  same_power h =
      let reached : c ≤ v = rounded_reaches k age (omega arith) in
      let u = rw (top-only v k reached h) at (units_between v (omega arith)) in
      let off = close age in
      by_bounds (u.0 - 2 - 2) (u.0 + 13 + 1) (beside c (m - c) (v - c) (pow_pos k) (omega arith) (omega arith) (omega arith) (omega arith) (u.0 - 2) (u.0 + 13) u.2) (omega (arith, u.1)) (omega (arith, u.1))

  next_power : 2 ^ suc k ≤ v → Near i j k (m - c) (m + c) (units_of v)
  next_power h =
      let u : units_of v ≡ suc k * ln2 / 4096 = units_power v (suc k) large h (omega (arith, rounded_width (suc k) age (omega arith))) in
      by_bounds (ln2 / 4096 - 1 - 2) (ln2 / 4096 + 2 + 1) (beside c (m - c) c (pow_pos k) (omega arith) (omega arith) (omega arith) (back c age (rounded_of age) lo (omega arith) (close age).0) (ln2 / 4096 - 1) (ln2 / 4096 + 2) (end c (pow_pos k))) (omega (arith, u)) (omega (arith, u))
    where
      back : (c x y : ℕ) → c ≤ 1 + x → 2 * c ≤ y + 1 → 2 ^ 44 * y ≤ 2 ^ 44 * x + x → 2 ^ 44 * c ≤ 2 ^ 44 * (1 + x - c) + (1 + x - c + c)
      back c x y l g n = omega (arith, l, g, n)

      large : 54 ≤ suc k
      large = lt_of_not-le (λ (g : suc k ≤ 53). let l : 2 ^ suc k ≤ 2 ^ 53 = pow_mono g in omega (arith, rounded_exact age (omega arith)))

  pub near_age : Near i j k (m - c) (m + c) (units_of v)
  near_age = elim (dec_le (2 ^ suc k) v) [ yes h ↦ next_power h | no g ↦ same_power (lt_of_not-le g) ]
