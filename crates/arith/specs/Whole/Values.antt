-- Floats by the fractions that they are worth: a fraction has one float, the floats are in the fractions' order, and few digits over a power of two are exact.
-- Assumes nothing.
use Rattle.std.specs.Prelude.{◌≡◌, ℕ, zero, suc, ◌+◌, ◌-◌, ◌*◌, ◌/◌, ◌%◌, ◌^◌, ◌<◌, ◌≤◌, Bool, true, false, cond, ◌&&◌, T, ltb, ℤ, ◌==◌, from_bits, nat_le, nat_lt, refl, Float}
use Rattle.std.proofs.Common.{sym, ap, ◌∙◌, true≢false, lt_of_not-le, not-le_of_lt, lt_of_lt_of_le, mul-pos, mul_assoc, mul_right_comm, sub-add_cancel, arith, ltb→lt, lit<, pow-add, pow_pos, pow_mono, shl_lt, lt-ltb, ne_eqb}
use Rattle.std.proofs.Math.Nat.{eq_of_mul-eq-mul_right}
use Rattle.std.specs.Float.{nan, inf, fin, Format, binary64}
use Rattle.std.specs.Float.Ieee.{prec, low, up, down, size, round, div, lt, fits, to_bits, hid, top}
use Rattle.std.specs.Float.Ieee.Positive.{positive_of_value}
use Rattle.std.specs.Float.Ieee.Fits.{up_pos, down_pos, and_l, and_r}
use Rattle.std.specs.Float.Ieee.Exact.{HasValue, round_exact}
use Rattle.std.specs.Float.Ieee.Nearest.{div_same}
use Rattle.std.specs.Float.Ieee.Order.{transfer}
use Rattle.std.specs.Float.Ieee.Scale.{round_same}
use Rattle.std.specs.Float.Ieee.Bits.{of_bits-to_bits}

-- from one fraction to another of the same size
pub same-value : (x : Float) (s : Bool) (a c b d : ℕ) → 0 < c → a * d ≡ b * c → HasValue x s a c → HasValue x s b d
same-value nan s a c b d C h v = v
same-value (inf t) s a c b d C h v = v
same-value (fin t m e) s a c b d C h v =
    (v.0, eq_of_mul-eq-mul_right c C (m * up e * d) (b * down e) (omega (arith, ap (λ (z : ℕ). z * d) v.1, ap (λ (z : ℕ). z * down e) h)))

-- the bits of n of the smallest units, with the sign s
abbrev bits_of : Format → Bool → ℕ → ℕ
bits_of f s n = let k = size n - prec f in cond s (top f) 0 + k * hid f + n / 2 ^ k

bits_of_lem : (f : Format) (x : Float) (s : Bool) (a c : ℕ) → 0 < c → HasValue x s a c → to_bits f x ≡ bits_of f s (a * 2 ^ low f / c)
unfolding to_bits
bits_of_lem f nan s a c C v = absurd v
bits_of_lem f (inf t) s a c C v = absurd v
bits_of_lem f (fin t m e) s a c C v =
    ap (λ (n : ℕ). bits_of f t n) (div_same (m * up e * 2 ^ low f) (down e) (a * 2 ^ low f) c (down_pos e) C (mul_right_comm (m * up e) (2 ^ low f) c ∙ ap (λ (z : ℕ). z * 2 ^ low f) v.1 ∙ mul_right_comm a (down e) (2 ^ low f)))
    ∙ ap (λ (b : Bool). bits_of f b (a * 2 ^ low f / c)) v.0

pub value_unique : (f : Format) (x y : Float) (s : Bool) (a c : ℕ) → 0 < c → T (fits f x) → T (fits f y) → HasValue x s a c → HasValue y s a c → x ≡ y
value_unique f x y s a c C p q v w = sym (of_bits-to_bits f x p) ∙ ap (from_bits f) (bits_of_lem f x s a c C v ∙ sym (bits_of_lem f y s a c C w)) ∙ of_bits-to_bits f y q

-- what holds of each float that is worth a / c and not negative, by its m and e
pub by_value : (P : Float → Type 0) (x : Float) (a c : ℕ) → HasValue x false a c → ((m : ℕ) (e : ℤ) → m * up e * c ≡ a * down e → P (fin false m e)) → P x
by_value P nan a c v f = absurd v
by_value P (inf s) a c v f = absurd v
by_value P (fin true m e) a c v f = absurd (true≢false v.0)
by_value P (fin false m e) a c v f = f m e v.1

pub lt_of_values : (x y : Float) (a c b d : ℕ) → HasValue x false a c → HasValue y false b d → a * d < b * c → lt x y ≡ true
unfolding lt
lt_of_values x y a c b d v w h =
    by_value (λ (z : Float). lt z y ≡ true) x a c v λ m e p.
    by_value (λ (z : Float). lt (fin false m e) z ≡ true) y b d w λ n k q.
    lt-ltb (m * up e * down k) (n * up k * down e)
    (lt_of_not-le (λ (g : n * up k * down e ≤ m * up e * down k). not-le_of_lt h (transfer b a d c (n * up k) (m * up e) (down k) (down e) (down_pos k) (down_pos e) (sym q) (sym p) g)))

above_zero : (n : ℕ) (k : ℤ) (b d : ℕ) → 0 < b → n * up k * d ≡ b * down k → 0 < n
above_zero n k b d B q = ltb→lt 0 n (positive_of_value (fin false n k) b d (refl, q) B)

pub lt-negative : (x : Float) (a c m : ℕ) (e : ℤ) → 0 < a → HasValue x false a c → lt (fin true m e) x ≡ true
unfolding lt
lt-negative x a c m e A v =
    by_value (λ (z : Float). lt (fin true m e) z ≡ true) x a c v λ n k q.
    lt-ltb 0 (m * up e * down k + n * up k * down e) (omega (arith, mul-pos (mul-pos (above_zero n k a c A q) (up_pos k)) (down_pos e)))

pub div_of_values : (f : Format) (x y : Float) (a c b d : ℕ) → 0 < c → 0 < b → HasValue x false a c → HasValue y false b d → div f x y ≡ round f false (a * d) (b * c)
unfolding div
div_of_values f x y a c b d C B v w =
    by_value (λ (z : Float). div f z y ≡ round f false (a * d) (b * c)) x a c v λ m e p.
    by_value (λ (z : Float). div f (fin false m e) z ≡ round f false (a * d) (b * c)) y b d w λ n k q.
    let N = above_zero n k b d B q in
    let cross : m * up e * down k * (b * c) ≡ a * d * (n * up k * down e) = omega (arith, ap (λ (z : ℕ). z * (down k * b)) p, ap (λ (z : ℕ). z * (a * down e)) q) in
    rw (ne_eqb n 0 (λ (z : n ≡ 0). omega arith)) (round_same f false (m * up e * down k) (n * up k * down e) (a * d) (b * c) (mul-pos (mul-pos N (up_pos k)) (down_pos e)) (mul-pos B C) cross)

-- a binary64 has 53 digits
pub fits-short : (s : Bool) (m : ℕ) (e : ℤ) → T (fits binary64 (fin s m e)) → m < 2 ^ 53
unfolding fits
fits-short s zero e t = lit< tt
fits-short s (suc m) e t =
    let small : Bool = ltb (suc m) (2 ^ 53) in
    ltb→lt (suc m) (2 ^ 53) (and_r (suc m % 2 == 1) small (and_l (suc m % 2 == 1 && small) (nat_le (down e) (2 ^ 1074)) (and_l (suc m % 2 == 1 && small && nat_le (down e) (2 ^ 1074)) (nat_lt (suc m * up e) (2 ^ 1024 * down e)) t)))

pub parts : (l k : ℕ) → k ≤ l → 2 ^ l ≡ 2 ^ (l - k) * 2 ^ k
parts l k h = ap (λ (x : ℕ). 2 ^ x) (sym (sub-add_cancel h)) ∙ pow-add 2 (l - k) k

-- at most 53 digits over a power of two, up to 2^1074
pub exact : (a k : ℕ) → a < 2 ^ 53 → k ≤ 1074 → HasValue (round binary64 false a (2 ^ k)) false a (2 ^ k)
exact a k h g =
    round_exact binary64 false a (2 ^ k) a (1074 - k) (pow_pos k) h (lt_of_lt_of_le (shl_lt 53 (1074 - k) h) (pow_mono {i = 53 + (1074 - k)} {j = 2098} (omega arith)))
    (ap (λ (x : ℕ). a * x) (parts 1074 k g) ∙ sym (mul_assoc a (2 ^ (1074 - k)) (2 ^ k)))
