-- Floats from 0 up to a whole number, and what the operations of binary64 keep of that.
use Rattle.std.specs.Prelude.{◌≡◌, ℕ, zero, suc, ◌+◌, ◌-◌, ◌*◌, ◌^◌, ◌<◌, ◌≤◌, Bool, true, false, cond, not, T, nat_lt, refl, Float}
use Rattle.std.proofs.Common.{sym, ap, subst, true≢false, zero-lt-suc, mul-pos, mul-le-mul, mul-le-mul_right, le_of_mul-le-mul_right, arith, lit<, nltb→le, le-ltb, ne_eqb}
use Rattle.std.specs.Bool.{beq}
use Rattle.std.specs.Float.{nan, inf, fin, binary64}
use Rattle.std.specs.Float.Ieee.{up, down, round, sum, add, mul, div, lt, le, is_nan, of_bits}
use Rattle.std.specs.Float.Ieee.Back.{round_whole}
use Rattle.std.specs.Float.Ieee.Exact.{HasValue}
use Rattle.std.specs.Float.Ieee.Fits.{down_pos}
use Rattle.std.specs.Float.Ieee.Order.{round_mono}
use Rattle.std.specs.Float.Ieee.Scale.{finite}
use Rattle.arith.specs.Floats.{f0}
use Rattle.arith.specs.Floats.Order.{le_is, of_sides}
use Rattle.arith.specs.Floats.Sign.{Signed, round_sign, round-zero}

-- finite and at most k: `Small` may be -0, `Plain` has its sign clear
abbrev pub Small : ℕ → Float → Type 0
Small k nan = ⊥
Small k (inf s) = ⊥
Small k (fin false m e) = m * up e ≤ k * down e
Small k (fin true m e) = m ≡ 0

abbrev pub Plain : ℕ → Float → Type 0
Plain k nan = ⊥
Plain k (inf s) = ⊥
Plain k (fin false m e) = m * up e ≤ k * down e
Plain k (fin true m e) = ⊥

pub plain_small : (k : ℕ) (x : Float) → Plain k x → Small k x
plain_small k (fin false m e) h = h
plain_small k nan h = elim h [ ]
plain_small k (inf _) h = elim h [ ]
plain_small k (fin true m e) h = elim h [ ]

pub small_finite : (k : ℕ) (x : Float) → Small k x → T (finite x)
small_finite k (fin false m e) h = tt
small_finite k (fin true m e) h = tt
small_finite k nan h = elim h [ ]
small_finite k (inf _) h = elim h [ ]

pub small_least : (k : ℕ) (x : Float) → Small k x → T (le f0 x)
unfolding of_bits
small_least k (fin false m e) h = of_sides f0 (fin false m e) tt tt (omega arith)
small_least k (fin true m e) h = of_sides f0 (fin true m e) tt tt (omega (arith, ap (λ (n : ℕ). n * up e) h))
small_least k nan h = elim h [ ]
small_least k (inf _) h = elim h [ ]

-- ---- rounding

-- below a float that is worth k
under : (k : ℕ) (x y : Float) → Signed false x → HasValue y false k 1 → T (le x y) → Plain k x
unfolding le lt is_nan
under k (inf true) y s v h = absurd (true≢false s)
under k (inf false) (fin t n d) s v h = absurd h
under k (fin true m e) y s v h = absurd (true≢false s)
under k (fin false m e) (fin true n d) s v h = absurd (true≢false v.0)
under k (fin false m e) (fin false n d) s v h =
    let a : m * up e * down d ≤ n * up d * down e = nltb→le _ _ (subst T (le_is (fin false m e) (fin false n d) refl refl) h) in
    le_of_mul-le-mul_right (omega (arith, ap (λ (z : ℕ). z * down e) v.1)) (down_pos d)
under k nan y s v h = elim s [ ]
under k (inf false) nan s v h = elim v [ ]
under k (inf false) (inf _) s v h = elim v [ ]
under k (fin false m e) nan s v h = elim v [ ]
under k (fin false m e) (inf _) s v h = elim v [ ]

pub round_plain : (k a c : ℕ) → k ≤ 2 ^ 53 → 0 < c → a ≤ k * c → Plain k (round binary64 false a c)
round_plain k a c h C l =
    under k (round binary64 false a c) (round binary64 false k 1) (round_sign binary64 false a c) (round_whole binary64 false k h) (round_mono binary64 a c k 1 C (lit< tt) (omega arith))

pub first-zero : (m u c : ℕ) → 0 < u → 0 < c → m * u * c ≡ 0 → m ≡ 0
first-zero zero u c U C e = refl
first-zero (suc m) u c U C e = let h : 0 < suc m * u * c = mul-pos (mul-pos (zero-lt-suc m) U) C in absurd (omega arith)

-- a negative zero stays one
round-small : (s : Bool) (k a c : ℕ) → k ≤ 2 ^ 53 → 0 < c → a ≤ k * c → (s ≡ true → a ≡ 0) → Small k (round binary64 s a c)
round-small false k a c h C l z = plain_small k (round binary64 false a c) (round_plain k a c h C l)
round-small true k a c h C l z = rw (z refl, round-zero binary64 true c C) refl

-- ---- by the value

pub value_plain : (k a c : ℕ) (x : Float) → 0 < c → a ≤ k * c → HasValue x false a c → Plain k x
value_plain k a c (fin true m e) C h v = absurd (true≢false v.0)
value_plain k a c (fin false m e) C h v = le_of_mul-le-mul_right (omega (arith, v.1, mul-le-mul_right (down e) h)) C
value_plain k a c nan C h v = elim v [ ]
value_plain k a c (inf _) C h v = elim v [ ]

-- ---- the operations

pub mul_plain : (j k : ℕ) (x y : Float) → j * k ≤ 2 ^ 53 → Plain j x → Plain k y → Plain (j * k) (mul binary64 x y)
unfolding mul
mul_plain j k (fin false m e) (fin false n d) h p q = round_plain (j * k) (m * up e * (n * up d)) (down e * down d) h (mul-pos (down_pos e) (down_pos d)) (omega (arith, mul-le-mul p q))
mul_plain j k nan y h p q = elim p [ ]
mul_plain j k (inf _) y h p q = elim p [ ]
mul_plain j k (fin false m e) nan h p q = elim q [ ]
mul_plain j k (fin false m e) (inf _) h p q = elim q [ ]
mul_plain j k (fin false m e) (fin true n d) h p q = elim q [ ]
mul_plain j k (fin true m e) y h p q = elim p [ ]

pub mul_small : (j k : ℕ) (x y : Float) → j * k ≤ 2 ^ 53 → Small j x → Small k y → Small (j * k) (mul binary64 x y)
unfolding mul
mul_small j k (fin false m e) (fin false n d) h p q = plain_small (j * k) (mul binary64 (fin false m e) (fin false n d)) (mul_plain j k (fin false m e) (fin false n d) h p q)
mul_small j k (fin false m e) (fin true n d) h p q =
    let z : m * up e * (n * up d) ≡ 0 = omega (arith, ap (λ (w : ℕ). m * up e * (w * up d)) q) in
    round-small true (j * k) (m * up e * (n * up d)) (down e * down d) h (mul-pos (down_pos e) (down_pos d)) (omega arith) (λ t. z)
mul_small j k (fin true m e) (fin t n d) h p q =
    let z : m * up e * (n * up d) ≡ 0 = omega (arith, ap (λ (w : ℕ). w * up e * (n * up d)) p) in
    round-small (not (beq true t)) (j * k) (m * up e * (n * up d)) (down e * down d) h (mul-pos (down_pos e) (down_pos d)) (omega arith) (λ u. z)
mul_small j k nan y h p q = elim p [ ]
mul_small j k (inf _) y h p q = elim p [ ]
mul_small j k (fin false m e) nan h p q = elim q [ ]
mul_small j k (fin false m e) (inf _) h p q = elim q [ ]
mul_small j k (fin true m e) nan h p q = elim q [ ]
mul_small j k (fin true m e) (inf _) h p q = elim q [ ]

-- with a sign that is clear on the right the sum's is clear
pub add_plain : (j k : ℕ) (x y : Float) → j + k ≤ 2 ^ 53 → Small j x → Plain k y → Plain (j + k) (add binary64 x y)
unfolding add sum
add_plain j k (fin false m e) (fin false n d) h p q =
    round_plain (j + k) (m * up e * down d + n * up d * down e) (down e * down d) h (mul-pos (down_pos e) (down_pos d)) (omega (arith, mul-le-mul_right (down d) p, mul-le-mul_right (down e) q))
add_plain j k nan y h p q = elim p [ ]
add_plain j k (inf _) y h p q = elim p [ ]
add_plain j k (fin false m e) nan h p q = elim q [ ]
add_plain j k (fin false m e) (inf _) h p q = elim q [ ]
add_plain j k (fin false m e) (fin true n d) h p q = elim q [ ]
add_plain j k (fin true m e) nan h p q = elim q [ ]
add_plain j k (fin true m e) (inf _) h p q = elim q [ ]
add_plain j k (fin true m e) (fin true n d) h p q = elim q [ ]
add_plain j k (fin true m e) (fin false n d) h p q =
    let z : m * up e * down d ≡ 0 = omega (arith, ap (λ (w : ℕ). w * up e * down d) p) in
    go (m * up e * down d) (n * up d * down e) (nat_lt (m * up e * down d) (n * up d * down e)) z (omega (arith, mul-le-mul_right (down e) q))
  where
    go : (a b : ℕ) (t : Bool) → a ≡ 0 → b ≤ (j + k) * (down e * down d) → Plain (j + k) (cond t (round binary64 false (b - a) (down e * down d)) (round binary64 (nat_lt b a) (a - b) (down e * down d)))
    go a b true z l = round_plain (j + k) (b - a) (down e * down d) h (mul-pos (down_pos e) (down_pos d)) (omega arith)
    go a b false z l = rw (le-ltb b a (omega arith)) (round_plain (j + k) (a - b) (down e * down d) h (mul-pos (down_pos e) (down_pos d)) (omega arith))

pub add_small : (j k : ℕ) (x y : Float) → j + k ≤ 2 ^ 53 → Small j x → Small k y → Small (j + k) (add binary64 x y)
unfolding add sum
add_small j k x (fin false n d) h p q = plain_small (j + k) (add binary64 x (fin false n d)) (add_plain j k x (fin false n d) h p q)
add_small j k (fin false m e) (fin true n d) h p q =
    let z : n * up d * down e ≡ 0 = omega (arith, ap (λ (w : ℕ). w * up d * down e) q) in
    rw (le-ltb (m * up e * down d) (n * up d * down e) (omega arith))
    (round-small false (j + k) (m * up e * down d - n * up d * down e) (down e * down d) h (mul-pos (down_pos e) (down_pos d)) (omega (arith, mul-le-mul_right (down d) p)) (λ t. absurd (true≢false (sym t))))
add_small j k (fin true m e) (fin true n d) h p q =
    let z : m * up e * down d + n * up d * down e ≡ 0 = omega (arith, ap (λ (w : ℕ). w * up e * down d) p, ap (λ (w : ℕ). w * up d * down e) q) in
    round-small true (j + k) (m * up e * down d + n * up d * down e) (down e * down d) h (mul-pos (down_pos e) (down_pos d)) (omega arith) (λ t. z)
add_small j k x nan h p q = elim q [ ]
add_small j k x (inf _) h p q = elim q [ ]
add_small j k nan (fin true n d) h p q = elim p [ ]
add_small j k (inf _) (fin true n d) h p q = elim p [ ]

-- a divisor of 1 or more makes it no greater
pub div_plain : (k a c : ℕ) (x y : Float) → k ≤ 2 ^ 53 → 0 < c → c ≤ a → Plain k x → HasValue y false a c → Plain k (div binary64 x y)
unfolding div
div_plain k a c (fin false m e) (fin true n d) h C l p v = absurd (true≢false v.0)
div_plain k a c (fin false m e) (fin false n d) h C l p v =
    let one : down d ≤ n * up d = le_of_mul-le-mul_right (omega (arith, v.1, mul-le-mul_right (down d) l)) C in
    let some : n ≡ 0 → ⊥ = λ z. omega (arith, down_pos d, ap (λ (w : ℕ). w * up d) z) in
    let above : 0 < n * up d = omega (arith, down_pos d) in
    rw (ne_eqb n 0 some)
    (round_plain k (m * up e * down d) (n * up d * down e) h (mul-pos above (down_pos e)) (omega (arith, mul-le-mul_right (down d) p, mul-le-mul_right (k * down e) one)))
div_plain k a c nan y h C l p v = elim p [ ]
div_plain k a c (inf _) y h C l p v = elim p [ ]
div_plain k a c (fin false m e) nan h C l p v = elim v [ ]
div_plain k a c (fin false m e) (inf _) h C l p v = elim v [ ]
div_plain k a c (fin true m e) y h C l p v = elim p [ ]
