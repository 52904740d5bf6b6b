-- The laws of Rust's `x as u64`: it is the whole part where that is a u64, 0 from -1 down, the top from 2^64 up, and it keeps the order.
-- Assumes nothing.
use Rattle.std.specs.Prelude.{◌≡◌, ℕ, ◌+◌, ◌-◌, ◌*◌, ◌/◌, ◌^◌, ◌<◌, ◌≤◌, min, Bool, true, false, ◌&&◌, ◌||◌, T, pos, ◌==◌, ◌≢◌, nat_lt, refl, Float}
use Rattle.std.proofs.Common.{sym, ap, ◌∙◌, true≢false, zero-le, le_refl, le_of_eq, le_of_lt, lt_of_not-le, div-one, div-mul-le_self, div-lt_iff_lt-mul, le-div_iff_mul-le, arith, eqb→eq, ltb→lt, lit<, ltb-false}
use Rattle.std.proofs.Math.Nat.{zero-div}
use Rattle.std.proofs.Math.Decide.{dec_le}
use Rattle.std.proofs.Math.Arith.{lt_of_le-ne}
use Rattle.std.specs.Float.{nan, inf, fin}
use Rattle.std.specs.Float.Ieee.{up, down, lt, le, to_unsigned}
use Rattle.std.specs.Float.Ieee.Fits.{down_pos, and_r}
use Rattle.std.specs.Float.Ieee.Exact.{HasValue}
use Rattle.std.specs.Float.Ieee.Nearest.{div_same, div_mono}
use Rattle.arith.specs.Whole.{float_of, rounded_of}
use Rattle.arith.specs.Whole.Values.{by_value}
use Rattle.arith.specs.Whole.Rounding.{rounded_value, rounded_le, rounded_odd}

-- the whole part of a / c, and never past the top: of `num x` / `den x`, as of any fraction that x is worth
part : (x : Float) (a c : ℕ) → 0 < c → HasValue x false a c → to_unsigned 64 x ≡ min (a / c) (2 ^ 64 - 1)
unfolding to_unsigned
part x a c C v = by_value (λ (z : Float). to_unsigned 64 z ≡ min (a / c) (2 ^ 64 - 1)) x a c v λ m e p. ap (λ (n : ℕ). min n (2 ^ 64 - 1)) (div_same (m * up e) (down e) a c (down_pos e) C p)

pub truncated : (x : Float) (a c : ℕ) → 0 < c → HasValue x false a c → a < 2 ^ 64 * c → (to_unsigned 64 x * c ≤ a) × (a < (to_unsigned 64 x + 1) * c)
truncated x a c C v h =
    let is : to_unsigned 64 x ≡ a / c = omega (arith, part x a c C v, (div-lt_iff_lt-mul C).1 h) in
    rw is (div-mul-le_self a c, (div-lt_iff_lt-mul C).0 (omega arith))

-- a whole number's float and back: what it was rounded to, and for 2^64 the top, which no number is rounded to
module _ (n v : ℕ) (h : n < 2 ^ 64) (is : v ≡ to_unsigned 64 (float_of n)) where
  least : v ≡ min (rounded_of n) (2 ^ 64 - 1)
  least = is ∙ part (float_of n) (rounded_of n) 1 (lit< tt) (rounded_value n h) ∙ ap (λ (x : ℕ). min x (2 ^ 64 - 1)) (div-one (rounded_of n))

  pub back : (v ≢ 2 ^ 64 - 1) → (v ≡ rounded_of n) × (v < 2 ^ 64 - 1)
  back ne = let l : v < 2 ^ 64 - 1 = lt_of_le-ne (omega (arith, least)) ne in (omega (arith, least), l)

  pub back-top : v ≡ 2 ^ 64 - 1 → rounded_of n ≡ 2 ^ 64
  back-top e = elim (dec_le (2 ^ 64) (rounded_of n)) [
    | yes l ↦ omega (arith, rounded_le n h)
    | no g ↦ let o : rounded_of n ≡ 2 ^ 64 - 1 = omega (arith, least, lt_of_not-le g) in omega (arith, rounded_odd n (rw o))
  ]

pub truncated-low : (x : Float) → lt (fin true 1 (pos 0)) x ≡ false → to_unsigned 64 x ≡ 0
unfolding lt to_unsigned
truncated-low nan h = refl
truncated-low (inf true) h = refl
truncated-low (inf false) h = absurd (true≢false h)
truncated-low (fin true m e) h = refl
truncated-low (fin false m e) h = omega (arith, down_pos e, ltb-false)

pub truncated-high : (x : Float) → lt (fin true 1 (pos 0)) x ≡ true → lt x (fin false 1 (pos 64)) ≡ false → to_unsigned 64 x ≡ 2 ^ 64 - 1
unfolding lt to_unsigned
truncated-high nan g h = absurd (true≢false (sym g))
truncated-high (inf true) g h = absurd (true≢false (sym g))
truncated-high (inf false) g h = refl
truncated-high (fin true m e) g h = omega (arith, down_pos e, ltb-false)
truncated-high (fin false m e) g h =
    let past : 2 ^ 64 * down e ≤ m * up e = omega (arith, ltb-false) in
    omega (arith, (le-div_iff_mul-le (down_pos e)).1 past)

-- what `le` says of two numbers
weak : (a b : ℕ) (t : Bool) → T (nat_lt a b || (a == b && t)) → a ≤ b
weak a b t = go (nat_lt a b) (a == b) (ltb→lt a b) (eqb→eq a b)
  where
    go : (p q : Bool) → (T p → a < b) → (T q → a ≡ b) → T (p || (q && t)) → a ≤ b
    go true q f g h = le_of_lt (f tt)
    go false true f g h = le_of_eq (g tt)
    go false false f g h = absurd h

pub truncated_mono : (x y : Float) → T (le x y) → to_unsigned 64 x ≤ to_unsigned 64 y
unfolding le to_unsigned
truncated_mono nan y h = absurd h
truncated_mono (inf true) y h = zero-le
truncated_mono (inf false) nan h = absurd h
truncated_mono (inf false) (inf true) h = absurd h
truncated_mono (inf false) (inf false) h = le_refl (2 ^ 64 - 1)
truncated_mono (inf false) (fin t n d) h = absurd h
truncated_mono (fin true m e) y h = zero-le
truncated_mono (fin false m e) nan h = absurd h
truncated_mono (fin false m e) (inf true) h = absurd h
truncated_mono (fin false m e) (inf false) h = omega arith
truncated_mono (fin false m e) (fin true n d) h =
    let none : m * up e * down d ≤ 0 * down e = omega (arith, eqb→eq (m * up e * down d) 0 (and_r (m * up e * down d == n * up d * down e) (m * up e * down d == 0) h)) in
    omega (arith, div_mono (m * up e) (down e) 0 (down d) (down_pos e) (down_pos d) none, zero-div (down d))
truncated_mono (fin false m e) (fin false n d) h =
    omega (arith, div_mono (m * up e) (down e) (n * up d) (down d) (down_pos e) (down_pos d) (weak (m * up e * down d) (n * up d * down e) true h))
