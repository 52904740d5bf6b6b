-- Floats that are no number below 0: a NaN, -0 and +infinity are such. Sums and products of such are such, and so are quotients by what has its sign clear.
use Rattle.std.specs.Prelude.{◌≡◌, ℕ, zero, suc, ◌+◌, ◌-◌, ◌*◌, ◌<◌, Bool, true, false, cond, ℤ, ◌==◌, nat_lt, refl, Float}
use Rattle.std.proofs.Common.{sym, true≢false, zero-lt-suc, mul-pos, arith, lit<, ltb-false, le-ltb}
use Rattle.std.specs.Float.{nan, inf, fin, Format}
use Rattle.std.specs.Float.Ieee.{up, down, unlike, round, sum, add, mul, div, lt, of_bits}
use Rattle.std.specs.Float.Ieee.Fits.{up_pos, down_pos}
use Rattle.arith.specs.Floats.{f0}
use Rattle.arith.specs.Floats.Range.{first-zero}
use Rattle.arith.specs.Floats.Commute.{unlike_turned}
use Rattle.arith.specs.Floats.Sign.{Signed, round_sign, round-zero}

-- ---- by its parts

abbrev NotBelow : Float → Type 0
NotBelow nan = Unit {0}
NotBelow (inf s) = s ≡ false
NotBelow (fin true m e) = m ≡ 0
NotBelow (fin false m e) = Unit {0}

opened : (x : Float) → lt x f0 ≡ false → NotBelow x
unfolding lt of_bits
opened nan l = tt
opened (inf s) l = l
opened (fin true m e) l = first-zero m (up e) 1 (up_pos e) (lit< tt) (omega (arith, ltb-false))
opened (fin false m e) l = tt

closed : (x : Float) → NotBelow x → lt x f0 ≡ false
unfolding lt of_bits
closed nan h = refl
closed (inf s) h = h
closed (fin true m e) h = rw h (le-ltb 0 (0 * up e * 1 + 0 * down e) (omega arith))
closed (fin false m e) h = le-ltb (m * up e * 1) (0 * down e) (omega arith)

signed : (x : Float) → Signed false x → NotBelow x
signed (inf s) h = h
signed (fin true m e) h = absurd (true≢false h)
signed (fin false m e) h = tt
signed nan h = elim h [ ]

-- the sign is clear, or there is nothing
abbrev Part : Bool → ℕ → Type 0
Part s a = s ≡ true → a ≡ 0

clear : (a : ℕ) → Part false a
clear a t = absurd (true≢false (sym t))

rounds : (f : Format) (s : Bool) (a c : ℕ) → 0 < c → Part s a → NotBelow (round f s a c)
rounds f false a c C z = signed (round f false a c) (round_sign f false a c)
rounds f true a c C z = rw (z refl, round-zero f true c C) refl

by-test : (t : Bool) (x y : Float) → (t ≡ true → NotBelow x) → (t ≡ false → NotBelow y) → NotBelow (cond t x y)
by-test true x y p q = p refl
by-test false x y p q = q refl

-- the denominator of a sum or a product
den : (e d : ℤ) → 0 < down e * down d
den e d = mul-pos (down_pos e) (down_pos d)

-- a finite float over a common denominator
part : (s : Bool) (m : ℕ) (e : ℤ) (k : ℕ) → NotBelow (fin s m e) → Part s (m * up e * k)
part false m e k h = clear (m * up e * k)
part true m e k h = λ t. rw h (omega arith)

sum_not : (f : Format) (s : Bool) (a : ℕ) (t : Bool) (b c : ℕ) → 0 < c → Part s a → Part t b → NotBelow (sum f s a t b c)
unfolding sum
sum_not f false a false b c C p q = rounds f false (a + b) c C (clear (a + b))
sum_not f false a true b c C p q = let z = q refl in by-test (nat_lt a b) (round f true (b - a) c) (round f false (a - b) c) (λ u. rounds f true (b - a) c C (λ v. omega arith)) (λ u. rounds f false (a - b) c C (clear (a - b)))
sum_not f true a false b c C p q = let z = p refl in by-test (nat_lt a b) (round f false (b - a) c) (round f (nat_lt b a) (a - b) c) (λ u. rounds f false (b - a) c C (clear (b - a))) (λ u. rounds f (nat_lt b a) (a - b) c C (λ v. omega arith))
sum_not f true a true b c C p q = rounds f true (a + b) c C (λ u. omega (arith, p refl, q refl))

add_not : (f : Format) (x y : Float) → NotBelow x → NotBelow y → NotBelow (add f x y)
unfolding add
add_not f nan y p q = tt
add_not f (inf s) nan p q = tt
add_not f (inf s) (inf t) p q = rw (p, q) refl
add_not f (inf s) (fin t n d) p q = p
add_not f (fin s m e) nan p q = tt
add_not f (fin s m e) (inf t) p q = q
add_not f (fin s m e) (fin t n d) p q = sum_not f s (m * up e * down d) t (n * up d * down e) (down e * down d) (den e d) (part s m e (down d) p) (part t n d (down e) q)

-- an infinity by a number
scaled : (s t : Bool) (n : ℕ) (d : ℤ) → s ≡ false → NotBelow (fin t n d) → NotBelow (cond (n == 0) nan (inf (unlike s t)))
scaled s false n d p q = rw p (by-test (n == 0) nan (inf false) (λ u. tt) (λ u. refl))
scaled s true n d p q = rw q tt

like : (s t : Bool) (a b : ℕ) → Part s a → Part t b → Part (unlike s t) (a * b)
like false false a b p q = clear (a * b)
like false true a b p q = λ u. rw (q refl) (omega arith)
like true false a b p q = λ u. rw (p refl) (omega arith)
like true true a b p q = clear (a * b)

mul_not : (f : Format) (x y : Float) → NotBelow x → NotBelow y → NotBelow (mul f x y)
unfolding mul
mul_not f nan y p q = tt
mul_not f (inf s) nan p q = tt
mul_not f (inf s) (inf t) p q = rw (p, q) refl
mul_not f (inf s) (fin t n d) p q = scaled s t n d p q
mul_not f (fin s m e) nan p q = tt
mul_not f (fin s m e) (inf t) p q = rw (unlike_turned s t) (scaled t s m e q p)
mul_not f (fin s m e) (fin t n d) p q =
    rounds f (unlike s t) (m * up e * (n * up d)) (down e * down d) (den e d) (like s t (m * up e) (n * up d) (λ u. omega (arith, part s m e 1 p u)) (λ u. omega (arith, part t n d 1 q u)))

div_not : (f : Format) (x y : Float) → NotBelow x → Signed false y → NotBelow (div f x y)
unfolding div
div_not f nan y p q = tt
div_not f (inf s) (inf t) p q = tt
div_not f (inf s) (fin t n d) p q = rw (p, q) refl
div_not f (fin false m e) (inf t) p q = rw q tt
div_not f (fin true m e) (inf t) p q = rw q refl
div_not f (inf s) nan p q = elim q [ ]
div_not f (fin s m e) nan p q = elim q [ ]
div_not f (fin s m e) (fin t n d) p q =
    rw (q, unlike_turned s false)
    (by-test (n == 0) _ _ (λ u. scaled false s m e refl p)
    (λ u. rounds f (unlike false s) (m * up e * down d) (n * up d * down e) (mul-pos (mul-pos (some n u) (up_pos d)) (down_pos e)) (λ v. omega (arith, like false s 1 (m * up e * down d) (clear 1) (part s m e (down d) p) v))))
  where
    some : (n : ℕ) → (n == 0) ≡ false → 0 < n
    some zero u = absurd (true≢false u)
    some (suc n) u = zero-lt-suc n

-- ---- the laws

-- a sign that is clear
pub clear_not_below : (x : Float) → Signed false x → lt x f0 ≡ false
clear_not_below x h = closed x (signed x h)

pub add_not_below : (f : Format) (x y : Float) → lt x f0 ≡ false → lt y f0 ≡ false → lt (add f x y) f0 ≡ false
add_not_below f x y p q = closed _ (add_not f x y (opened x p) (opened y q))

pub mul_not_below : (f : Format) (x y : Float) → lt x f0 ≡ false → lt y f0 ≡ false → lt (mul f x y) f0 ≡ false
mul_not_below f x y p q = closed _ (mul_not f x y (opened x p) (opened y q))

-- 1.0 by -0 is -infinity: the divisor's sign has to be clear
pub div_not_below : (f : Format) (x y : Float) → lt x f0 ≡ false → Signed false y → lt (div f x y) f0 ≡ false
div_not_below f x y p q = closed _ (div_not f x y (opened x p) q)
