-- The library's root of a whole number as a binary64 is `root_of`: both are the nearest binary64 to one root, which is never half way between two.
-- Assumes nothing.
use Rattle.std.proofs.Common.{◌≡◌, ℕ, zero, suc, ◌+◌, ◌-◌, ◌*◌, ◌/◌, ◌%◌, ◌^◌, ◌<◌, ◌≤◌, Bool, true, false, cond, ℤ, refl, sym, ap, ◌∙◌, le_trans, le_of_eq, lt_of_lt_of_le, lt_of_le_of_lt, lt_of_not-le, mul-pos, mul_assoc, mul-div_cancel, mul-le-mul_right, mul-lt-mul_of_pos_right, le-div_iff_mul-le, arith, lit≤, pow-add, pow_pos, pow_mono, shl_lt, eqb-true}
use Rattle.std.proofs.Math.Decide.{dec_le}
use native.Mathlib.Nat.{div-lt_iff_lt-mul}
use lib.Arith.{digits_div, digits_mod}
use lib.Dec.{eqb}
use Prim.Native.Nat.compare
use Prim.Native.Nat.{compare, Ordering}
use lib.Ieee.{Float, fin, binary64, up, down, size, round, sqrt, nearest, root_below, root_twice, of_int}
use lib.Ieee.Digits.{size-le}
use lib.Ieee.Fits.{round-fits, sqrt-fits, down_pos}
use lib.Ieee.Exact.{HasValue}
use lib.Ieee.Nearest.{closest, closest_same}
use lib.Ieee.Root.{Root, whole_part}
use lib.Ieee.Scale.{grid, round_val}
use Rattle.arith.specs.Whole.{float_of, rounded_of}
use Rattle.arith.specs.Whole.Values.{same-value, value_unique, by_value, parts}
use Rattle.arith.specs.Whole.Rounding.{size_gt, rounded_pos, rounded_value}
use Rattle.arith.specs.Root.{root_digits, root_shift, root_of}
use Rattle.arith.specs.Root.Squares.{sq_lt, four-pow, Rooted, shift_le, root_rooted}
use Rattle.arith.specs.Root.Nearest.{root_is, root_value}

-- ---- the whole part of a root beside bounds on the root: of x = 4 w G^2, by a c of which the square is less or more than 4 w
scaled : (c G : ℕ) → c * G * (c * G) ≡ c * c * (G * G)
scaled c G = omega arith

module _ (w G x : ℕ) (is : x ≡ 4 * w * (G * G)) (p : 0 < G) {r : ℕ} (whole : Root r x) where
  under : (c : ℕ) → c * c ≤ 4 * w → c * G ≤ r
  under c h = omega (arith, sq_lt (c * G) (r + 1) (lt_of_le_of_lt (le_trans (le_of_eq (scaled c G)) (le_trans (mul-le-mul_right (G * G) h) (le_of_eq (sym is)))) whole.1))

  strictly : (c : ℕ) → c * c < 4 * w → r * r ≡ x → c * G < r
  strictly c h e = sq_lt (c * G) r (lt_of_le_of_lt (le_of_eq (scaled c G)) (lt_of_lt_of_le (mul-lt-mul_of_pos_right h (mul-pos p p)) (le_of_eq (sym is ∙ sym e))))

  over : (c : ℕ) → 4 * w < c * c → r < c * G
  over c h = sq_lt r (c * G) (lt_of_le_of_lt (le_trans whole.0 (le_of_eq is)) (lt_of_lt_of_le (mul-lt-mul_of_pos_right h (mul-pos p p)) (le_of_eq (sym (scaled c G)))))

-- ---- twice the root, with a mark where it is not whole: between the same odd numbers
record Twice (a b G t : ℕ) : Type 0 where
  low : a * (2 * G) < t
  high : t < b * (2 * G)
  least : 2 ^ 52 * (4 * G) ≤ t

twice : (a b w G x : ℕ) → x ≡ 4 * w * (G * G) → 0 < G → a * a < 4 * w → 4 * w < b * b → 2 ^ 104 ≤ w → Twice a b G (root_twice x)
unfolding root_twice
twice a b w G x is p low high full = go (root_below (size x) x) (whole_part x) (eqb (root_below (size x) x * root_below (size x) x) x) (eqb-true _ x)
  where
    go : (r : ℕ) → Root r x → (m : Bool) → (m ≡ true → r * r ≡ x) → Twice a b G (2 * r + cond m 0 1)
    go r whole true e =
        record {
          low = omega (arith, strictly w G x is p whole a low (e refl));
          high = omega (arith, over w G x is p whole b high);
          least = omega (arith, under w G x is p whole (2 ^ 53) (omega arith));
        }
    go r whole false e =
        record {
          low = omega (arith, under w G x is p whole a (omega arith));
          high = omega (arith, over w G x is p whole b high);
          least = omega (arith, under w G x is p whole (2 ^ 53) (omega arith));
        }

-- ---- the nearest whole number, by the halves beside it
compare-lt : (a b : ℕ) → a < b → compare a b ≡ Ordering.lt
compare-lt zero (suc b) h = compare.zero-suc b
compare-lt (suc a) (suc b) h = compare.suc-suc a b ∙ compare-lt a b (omega arith)
compare-lt a zero h = absurd (omega arith)

compare-gt : (a b : ℕ) → b < a → compare a b ≡ Ordering.gt
compare-gt (suc a) zero h = compare.suc-zero a
compare-gt (suc a) (suc b) h = compare.suc-suc a b ∙ compare-gt a b (omega arith)
compare-gt zero b h = absurd (omega arith)

split : (t D q r : ℕ) (o : Ordering) → t ≡ q * D + r → r < D → compare (r * 2) D ≡ o → closest t D ≡ nearest q o
split t D q r o e l c =
    let d : t / D ≡ q = ap (λ (k : ℕ). k / D) e ∙ digits_div q l in
    let m : t % D ≡ r = ap (λ (k : ℕ). k % D) e ∙ digits_mod q l in
    (λ i. nearest (d i) (compare (m i * 2) D)) ∙ ap (nearest q) c

closest_is : (t D q : ℕ) → (2 * q + 1) * D < 2 * t → 2 * t < (2 * q + 3) * D → closest t D ≡ suc q
closest_is t D q low high = elim (dec_le (suc q * D) t) [
  | yes l ↦ split t D (suc q) (t - suc q * D) Ordering.lt (omega arith) (omega arith) (compare-lt _ _ (omega arith))
  | no g ↦ let l : t < suc q * D = lt_of_not-le g in split t D q (t - q * D) Ordering.gt (omega arith) (omega arith) (compare-gt _ _ (omega arith))
]

-- ---- rounded, such a fraction is that number over a power of two
module _ (t D S R : ℕ) (p : 0 < D) (few : S ≤ 1074) (least : 2 ^ 52 * D ≤ t) (most : t < 2 ^ 53 * D) (short : R < 2 ^ 53) (is : closest t D ≡ R) where
  c : ℕ
  c = D * 2 ^ S

  c_pos : 0 < D * 2 ^ S
  c_pos = mul-pos p (pow_pos S)

  reaches : (k : ℕ) → 2 ^ (k + 1074 - S) * (D * 2 ^ S) ≡ 2 ^ k * D * 2 ^ 1074
  reaches k = omega (arith, ap (λ (x : ℕ). D * x) (parts (k + 1074) S (omega arith)), ap (λ (x : ℕ). D * x) (pow-add 2 k 1074))

  digits : size (t * 2 ^ 1074 / (D * 2 ^ S)) - 53 ≡ 1074 - S
  digits =
      let n = t * 2 ^ 1074 in
      let low : 2 ^ (52 + 1074 - S) ≤ n / (D * 2 ^ S) = (le-div_iff_mul-le c_pos).1 (le_trans (le_of_eq (reaches 52)) (mul-le-mul_right (2 ^ 1074) least)) in
      let high : n / (D * 2 ^ S) < 2 ^ (53 + 1074 - S) = (div-lt_iff_lt-mul c_pos).1 (lt_of_lt_of_le (mul-lt-mul_of_pos_right most (pow_pos 1074)) (le_of_eq (sym (reaches 53)))) in
      omega (arith, size_gt _ _ low, size-le _ _ high)

  grid_is : grid binary64 t (D * 2 ^ S) ≡ R * 2 ^ (1074 - S)
  grid_is =
      let k = 1074 - S in
      let same : t * 2 ^ 1074 * D ≡ t * (D * 2 ^ S * 2 ^ k) = omega (arith, ap (λ (x : ℕ). t * D * x) (parts 1074 S few)) in
      ap (λ (j : ℕ). closest (t * 2 ^ 1074) (D * 2 ^ S * 2 ^ j) * 2 ^ j) digits
      ∙ ap (λ (z : ℕ). z * 2 ^ k) (closest_same (t * 2 ^ 1074) (D * 2 ^ S * 2 ^ k) t D (mul-pos c_pos (pow_pos k)) p same ∙ is)

  worth : HasValue (round binary64 false t (D * 2 ^ S)) false R (2 ^ S)
  worth =
      let k = 1074 - S in
      same-value (round binary64 false t (D * 2 ^ S)) false (R * 2 ^ k) (2 ^ 1074) R (2 ^ S) (pow_pos 1074)
      (mul_assoc R (2 ^ k) (2 ^ S) ∙ ap (λ (x : ℕ). R * x) (sym (parts 1074 S few)))
      (rw grid_is at (round_val binary64 t (D * 2 ^ S) (rw grid_is (lt_of_lt_of_le (shl_lt 53 k short) (pow_mono {i = 53 + k} {j = 2098} (omega arith))))))

-- ---- so the root of a whole v
module _ (v R S : ℕ) (r : Rooted v R S) (few : S ≤ 52) where
  G : ℕ
  G = 2 ^ (2270 - S)

  places : v * 2 ^ 4542 ≡ 4 * (v * 4 ^ S) * (2 ^ (2270 - S) * 2 ^ (2270 - S))
  places =
      let two : 2 ^ 4542 ≡ 2 ^ 2 * (2 ^ (S + S) * (2 ^ (2270 - S) * 2 ^ (2270 - S))) =
      ap (λ (x : ℕ). 2 ^ x) (let z : 4542 ≡ 2 + (S + S + (2270 - S + (2270 - S))) = omega arith in z) ∙ pow-add 2 2 (S + S + (2270 - S + (2270 - S))) ∙ ap (λ (x : ℕ). 2 ^ 2 * x) (pow-add 2 (S + S) (2270 - S + (2270 - S)) ∙ ap (λ (x : ℕ). 2 ^ (S + S) * x) (pow-add 2 (2270 - S) (2270 - S))) in
      ap (λ (x : ℕ). v * x) two ∙ rw (four-pow S) (omega arith)

  over_point : 2 ^ 2272 ≡ 4 * 2 ^ (2270 - S) * 2 ^ S
  over_point = omega (arith, parts 2270 S (omega arith))

  nearest_is : (q : ℕ) → R ≡ suc q → HasValue (round binary64 false (root_twice (v * 2 ^ 4542)) (2 ^ 2272)) false R (2 ^ S)
  nearest_is q e =
      let g = 2 ^ (2270 - S) in
      let t = root_twice (v * 2 ^ 4542) in
      let w = twice (2 * q + 1) (2 * q + 3) (v * 4 ^ S) g (v * 2 ^ 4542) places (pow_pos (2270 - S)) (below q e r.low) (above q e r.high) r.full in
      rw over_point
      (worth t (4 * g) S R (mul-pos (lit≤ tt) (pow_pos (2270 - S))) (omega arith) w.least (lt_of_lt_of_le w.high (le_trans (mul-le-mul_right (2 * g) (let z : 2 * q + 3 ≤ 2 ^ 54 = omega (arith, r.most) in z)) (omega arith))) r.most
      (closest_is t (4 * g) q (omega (arith, w.low)) (omega (arith, w.high)) ∙ sym e))
    where
      below : (q : ℕ) → R ≡ suc q → (2 * R - 1) * (2 * R - 1) < 4 * (v * 4 ^ S) → (2 * q + 1) * (2 * q + 1) < 4 * (v * 4 ^ S)
      below q e h = rw (let a : 2 * q + 1 ≡ 2 * R - 1 = omega arith in a) h

      above : (q : ℕ) → R ≡ suc q → 4 * (v * 4 ^ S) < (2 * R + 1) * (2 * R + 1) → 4 * (v * 4 ^ S) < (2 * q + 3) * (2 * q + 3)
      above q e h = rw (let a : 2 * q + 3 ≡ 2 * R + 1 = omega arith in a) h

  worth_root : (x : Float) → HasValue x false v 1 → 0 < v → HasValue (sqrt binary64 x) false R (2 ^ S)
  unfolding sqrt
  worth_root x is p = by_value (λ (z : Float). HasValue (sqrt binary64 z) false R (2 ^ S)) x v 1 is go
    where
      plain : (n d : ℕ) → n ≡ v * d → 0 < d → n * 2 ^ 4542 / d ≡ v * 2 ^ 4542
      plain n d e q = ap (λ (k : ℕ). k / d) (let z : n * 2 ^ 4542 ≡ v * 2 ^ 4542 * d = omega (arith, ap (λ (k : ℕ). k * 2 ^ 4542) e) in z) ∙ mul-div_cancel (v * 2 ^ 4542) q

      go : (m : ℕ) (e : ℤ) → m * up e * 1 ≡ v * down e → HasValue (sqrt binary64 (fin false m e)) false R (2 ^ S)
      go zero e h = absurd (omega (arith, mul-pos p (down_pos e)))
      go (suc m) e h = rw (plain (suc m * up e) (down e) (omega (arith, h)) (down_pos e)) (nearest_is (R - 1) (omega (arith, r.least)))

at_zero : sqrt binary64 (float_of 0) ≡ root_of 0
unfolding sqrt of_int root_of round
at_zero = refl

pub root_same : (n : ℕ) → n < 2 ^ 64 → sqrt binary64 (float_of n) ≡ root_of n
root_same zero h = at_zero
root_same (suc n) h =
    let R = root_digits (rounded_of (suc n)) in
    let S = root_shift (rounded_of (suc n)) in
    let r = root_rooted (suc n) (omega arith) h in
    value_unique binary64 (sqrt binary64 (float_of (suc n))) (root_of (suc n)) false R (2 ^ S) (pow_pos S)
    (sqrt-fits binary64 (float_of (suc n))) (rw (root_is (suc n)) (round-fits binary64 false R (2 ^ S)))
    (worth_root (rounded_of (suc n)) R S r (shift_le (rounded_of (suc n))) (float_of (suc n)) (rounded_value (suc n) h) (rounded_pos (suc n) (omega arith)))
    (root_value (suc n) (omega arith) h)
