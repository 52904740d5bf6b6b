-- The root as a binary64: its value, that no other binary64 is as near, and that from 1 on it is 1 at least.
-- Assumes nothing.
use Rattle.std.specs.Prelude.{◌≡◌, ℕ, suc, ◌+◌, ◌-◌, ◌*◌, ◌^◌, ◌<◌, ◌≤◌, Bool, true, false, T, ◌⊎◌, ℤ, pos, negsuc, ◌≢◌, refl}
use Rattle.std.proofs.Common.{sym, ap, ◌∙◌, inl, inr, le_trans, le_of_eq, lt_of_not-le, lt_of_lt_of_le, lt_of_le_of_lt, mul-pos, mul-one, mul_assoc, mul-le-mul_right, mul-lt-mul_of_pos_right, lt_of_mul-lt-mul_right, sub-le, eq-or-lt_of_le, arith, pow-add, pow_pos, pow_mono}
use Rattle.std.proofs.Math.Decide.{dec_le}
use Rattle.std.specs.Float.{fin, binary64}
use Rattle.std.specs.Float.Ieee.{up, down, round, lt, le, fits, of_bits}
use Rattle.std.specs.Float.Ieee.Fits.{round-fits, down_pos}
use Rattle.std.specs.Float.Ieee.Exact.{HasValue}
use Rattle.std.specs.Float.Ieee.Order.{le_of_values}
use Rattle.arith.specs.Whole.{rounded_of}
use Rattle.arith.specs.Whole.Values.{value_unique, lt_of_values, lt-negative, fits-short, parts, exact}
use Rattle.arith.specs.Root.{root_shift, root_digits, root_of}
use Rattle.arith.specs.Root.Squares.{sq_le, sq_strict, four-pow, Rooted, shift_le, root_rooted}

pub root_is : (n : ℕ) → root_of n ≡ round binary64 false (root_digits (rounded_of n)) (2 ^ root_shift (rounded_of n))
unfolding root_of
root_is n = refl

pub root_value : (n : ℕ) → 0 < n → n < 2 ^ 64 → HasValue (root_of n) false (root_digits (rounded_of n)) (2 ^ root_shift (rounded_of n))
root_value n p h = let v = rounded_of n in rw (root_is n) (exact (root_digits v) (root_shift v) (root_rooted n p h).most (omega (arith, shift_le v)))

pub root_zero : root_of 0 ≡ fin false 0 (pos 0)
unfolding root_of
root_zero = refl

pub root_one_le : (n : ℕ) → 0 < n → n < 2 ^ 64 → T (le (of_bits binary64 0x3ff0000000000000) (root_of n))
unfolding of_bits
root_one_le n p h =
    let v = rounded_of n in
    let S = root_shift v in
    le_of_values (fin false 1 (pos 0)) (root_of n) 1 1 (root_digits v) (2 ^ S) (pow_pos 0) (pow_pos S) (refl, refl) (root_value n p h)
    (omega (arith, pow_mono (shift_le v), (root_rooted n p h).least))

-- ---- squares of a multiple of D
above : (x c D M : ℕ) → 0 < D → x < c * c → c * D ≤ M → x * (D * D) < M * M
above x c D M p h k = lt_of_lt_of_le (mul-lt-mul_of_pos_right h (mul-pos p p)) (le_trans (omega arith) (sq_le k))

below : (x c D M : ℕ) → 0 < D → c * c < x → M ≤ c * D → M * M < x * (D * D)
below x c D M p h k = lt_of_le_of_lt (le_trans (sq_le k) (omega arith)) (mul-lt-mul_of_pos_right h (mul-pos p p))

-- m * 2^e, in units of 2^-S, is a whole number, or below 2^52
whole_or_small : (m : ℕ) (e : ℤ) (S : ℕ) → m < 2 ^ 53 → ((w : ℕ) × (m * up e * 2 ^ S ≡ w * down e)) ⊎ (m * up e * 2 ^ S < 2 ^ 52 * down e)
whole_or_small m (pos k) S h = inl (m * 2 ^ k * 2 ^ S, sym (mul-one (m * 2 ^ k * 2 ^ S)))
whole_or_small m (negsuc j) S h = elim (dec_le (suc j) S) [
  | yes l ↦ inl (m * 2 ^ (S - suc j), ap (λ (x : ℕ). x * 2 ^ S) (mul-one m) ∙ ap (λ (x : ℕ). m * x) (parts S (suc j) l) ∙ sym (mul_assoc m (2 ^ (S - suc j)) (2 ^ suc j)))
  | no g ↦
      let room : 53 + S ≤ 52 + suc j = omega (arith, lt_of_not-le g) in
      let less : m * 1 < 2 ^ 53 = omega arith in
      inr (lt_of_lt_of_le (mul-lt-mul_of_pos_right less (pow_pos S)) (le_trans (le_of_eq (sym (pow-add 2 53 S))) (le_trans (pow_mono room) (le_of_eq (pow-add 2 52 (suc j))))))
]

-- beside a root of R units a whole number of units is one off at least
module _ (x R D B : ℕ) (p : 0 < D) (least : 2 ^ 52 ≤ R) (grid : ((w : ℕ) × (B ≡ w * D)) ⊎ (B < 2 ^ 52 * D)) where
  one_up : R * D < B → (2 * R + 1) * D ≤ R * D + B
  one_up h = elim grid [
    | inl w ↦ let l : R < w.0 = lt_of_mul-lt-mul_right D (rw w.1 at h) in omega (arith, mul-le-mul_right D l, w.1)
    | inr g ↦ omega (arith, mul-le-mul_right D least)
  ]

  less : B + D ≤ R * D → R * D + B ≤ (2 * R - 1) * D
  less h = go (2 * R - 1) (omega arith)
    where
      go : (c : ℕ) → c + 1 ≡ 2 * R → R * D + B ≤ c * D
      go c e = omega (arith, ap (λ (z : ℕ). z * D) e)

  one_down : 2 ^ 104 ≤ x → (2 * R - 1) * (2 * R - 1) < 4 * x → B < R * D → (R * D + B) * (R * D + B) < 4 * x * (D * D)
  one_down full low h = elim grid [
    | inl w ↦ let l : w.0 < R = lt_of_mul-lt-mul_right D (rw w.1 at h) in below (4 * x) (2 * R - 1) D (R * D + B) p low (less (omega (arith, mul-le-mul_right D l, w.1)))
    | inr g ↦ elim (eq-or-lt_of_le least) [
      | inl e ↦
          let few : R * D + B < 2 ^ 53 * D = omega (arith, ap (λ (z : ℕ). z * D) e) in
          lt_of_lt_of_le (sq_strict few) (omega (arith, mul-le-mul_right (D * D) full))
      | inr l ↦ below (4 * x) (2 * R - 1) D (R * D + B) p low (less (omega (arith, mul-le-mul_right D l)))
    ]
  ]

-- twice the midpoint of R / 2^S and the float of t, m, e, in units of 1 / (2^S * down e): cut at 0
abbrev pub midpoint : ℕ → ℕ → Bool → ℕ → ℤ → ℕ
midpoint R S false m e = R * down e + m * up e * 2 ^ S
midpoint R S true m e = R * down e - m * up e * 2 ^ S

module _ (v R S : ℕ) (r : Rooted v R S) (m : ℕ) (e : ℤ) where
  square : 4 * v * (2 ^ S * down e * (2 ^ S * down e)) ≡ 4 * (v * 4 ^ S) * (down e * down e)
  square = omega (arith, ap (λ (x : ℕ). v * x * (down e * down e)) (four-pow S ∙ pow-add 2 S S))

  above_root : m < 2 ^ 53 → R * down e < m * up e * 2 ^ S → 4 * v * (2 ^ S * down e * (2 ^ S * down e)) < midpoint R S false m e * midpoint R S false m e
  above_root short h =
      rw square
      (above (4 * (v * 4 ^ S)) (2 * R + 1) (down e) (midpoint R S false m e) (down_pos e) r.high
      (one_up (v * 4 ^ S) R (down e) (m * up e * 2 ^ S) (down_pos e) r.least (whole_or_small m e S short) h))

  below_root : m < 2 ^ 53 → m * up e * 2 ^ S < R * down e → midpoint R S false m e * midpoint R S false m e < 4 * v * (2 ^ S * down e * (2 ^ S * down e))
  below_root short h = rw square (one_down (v * 4 ^ S) R (down e) (m * up e * 2 ^ S) (down_pos e) r.least (whole_or_small m e S short) r.full r.low h)

  negative : midpoint R S true m e * midpoint R S true m e < 4 * v * (2 ^ S * down e * (2 ^ S * down e))
  negative =
      let c : R ≤ 2 * R - 1 = omega (arith, r.least) in
      rw square (below (4 * (v * 4 ^ S)) (2 * R - 1) (down e) (midpoint R S true m e) (down_pos e) r.low (le_trans (sub-le (R * down e) (m * up e * 2 ^ S)) (mul-le-mul_right (down e) c)))

-- Any other finite binary64 lies above `root_of n`, and the exact root of v lies below the midpoint of the two; or it lies below, and the exact root above the midpoint.
pub root_nearest : (n : ℕ) → 0 < n → n < 2 ^ 64 → (t : Bool) (m : ℕ) (e : ℤ) → T (fits binary64 (fin t m e)) → (fin t m e ≢ root_of n)
    → let v = rounded_of n in
    let S = root_shift v in
    let M = midpoint (root_digits v) S t m e in
    let u = 2 ^ S * down e in
    ((lt (root_of n) (fin t m e) ≡ true) × (4 * v * (u * u) < M * M)) ⊎ ((lt (fin t m e) (root_of n) ≡ true) × (M * M < 4 * v * (u * u)))
root_nearest n p h true m e f ne =
    let v = rounded_of n in
    let r = root_rooted n p h in
    inr (lt-negative (root_of n) (root_digits v) (2 ^ root_shift v) m e (omega (arith, r.least)) (root_value n p h), negative v (root_digits v) (root_shift v) r m e)
root_nearest n p h false m e f ne =
    let v = rounded_of n in
    let R = root_digits v in
    let S = root_shift v in
    let r = root_rooted n p h in
    let value = root_value n p h in
    let short = fits-short false m e f in
    elim (dec_le (R * down e) (m * up e * 2 ^ S)) [
      | yes l ↦ elim (eq-or-lt_of_le l) [
        | inl q ↦ absurd (ne (value_unique binary64 (fin false m e) (root_of n) false R (2 ^ S) (pow_pos S) f (rw (root_is n) (round-fits binary64 false R (2 ^ S))) (refl, sym q) value))
        | inr g ↦ inl (lt_of_values (root_of n) (fin false m e) R (2 ^ S) (m * up e) (down e) value (refl, refl) g, above_root v R S r m e short g)
      ]
      | no k ↦ let g = lt_of_not-le k in inr (lt_of_values (fin false m e) (root_of n) (m * up e) (down e) R (2 ^ S) (refl, refl) value g, below_root v R S r m e short g)
    ]
