-- Sums and products of finite floats are rounded differences of their parts, and rounding keeps the order of such differences.
use Rattle.std.specs.Prelude.{◌≡◌, ℕ, ◌+◌, ◌-◌, ◌*◌, ◌<◌, ◌≤◌, Bool, true, false, cond, T, nat_lt, refl, Float}
use Rattle.std.proofs.Common.{sym, ap, true≢false, arith, lit<, ltb-true, ltb-false}
use Rattle.std.specs.Float.{nan, inf, fin, Format}
use Rattle.std.specs.Float.Ieee.{up, down, round, neg, sum, add, mul, le}
use Rattle.std.specs.Float.Ieee.Order.{round_mono}
use Rattle.std.specs.Float.Ieee.Positive.{den}
use Rattle.std.specs.Float.Ieee.Scale.{finite}
use Rattle.arith.specs.Floats.Order.{plus, minus, sides, of_sides}
use Rattle.arith.specs.Floats.Range.{first-zero}
use Rattle.arith.specs.Floats.Sign.{Signed, round_sign, round-turned, round-zero}

pub neg_anti : (x y : Float) → T (le x y) → T (le (neg y) (neg x))
unfolding le neg
neg_anti (inf true) (inf true) h = tt
neg_anti (inf true) (inf false) h = tt
neg_anti (inf false) (inf false) h = tt
neg_anti (inf true) (fin t n d) h = tt
neg_anti (fin s m e) (inf false) h = tt
neg_anti (fin true m e) (fin true n d) h = of_sides (fin false n d) (fin false m e) tt tt (omega (arith, sides (fin true m e) (fin true n d) tt tt h))
neg_anti (fin true m e) (fin false n d) h = of_sides (fin true n d) (fin false m e) tt tt (omega (arith, sides (fin true m e) (fin false n d) tt tt h))
neg_anti (fin false m e) (fin true n d) h = of_sides (fin false n d) (fin true m e) tt tt (omega (arith, sides (fin false m e) (fin true n d) tt tt h))
neg_anti (fin false m e) (fin false n d) h = of_sides (fin true n d) (fin true m e) tt tt (omega (arith, sides (fin false m e) (fin false n d) tt tt h))
neg_anti nan y h = elim h [ ]
neg_anti (inf false) nan h = elim h [ ]
neg_anti (inf false) (inf true) h = elim h [ ]
neg_anti (inf false) (fin t n d) h = elim h [ ]
neg_anti (inf true) nan h = elim h [ ]
neg_anti (fin s m e) nan h = elim h [ ]
neg_anti (fin s m e) (inf true) h = elim h [ ]

-- ---- rounded differences

-- x is (p - q) / c rounded; a zero may have either sign
pub data Rounds (f : Format) (x : Float) (p q c : ℕ) : Type 0 where
  above : (r : ℕ) → p ≡ q + r → x ≡ round f false r c → Rounds f x p q c
  below : (r : ℕ) → q ≡ p + r → x ≡ round f true r c → Rounds f x p q c

signs : (x y : Float) → Signed true x → Signed false y → T (le x y)
unfolding le
signs (inf true) (inf false) p q = tt
signs (inf true) (fin t n d) p q = tt
signs (fin true m e) (inf false) p q = tt
signs (fin true m e) (fin false n d) p q = of_sides (fin true m e) (fin false n d) tt tt (omega arith)
signs (inf false) y p q = absurd (true≢false (sym p))
signs (fin false m e) y p q = absurd (true≢false (sym p))
signs (inf true) (inf true) p q = absurd (true≢false q)
signs (fin true m e) (inf true) p q = absurd (true≢false q)
signs (fin true m e) (fin true n d) p q = absurd (true≢false q)
signs nan y p q = elim p [ ]
signs (inf true) nan p q = elim q [ ]
signs (fin true m e) nan p q = elim q [ ]

-- r is the difference of p and q
grows : (p q r c p' q' r' c' : ℕ) → p ≡ q + r → p' ≡ q' + r' → p * c' + q' * c ≤ p' * c + q * c' → r * c' ≤ r' * c
grows p q r c p' q' r' c' e e' h = omega (arith, ap (λ (z : ℕ). z * c') e, ap (λ (z : ℕ). z * c) e')

-- a difference from 0 up that is no greater than one from 0 down: both are 0
nothing : (p q r c p' q' r' c' : ℕ) → 0 < c → 0 < c' → p ≡ q + r → q' ≡ p' + r' → p * c' + q' * c ≤ p' * c + q * c' → (r ≡ 0) × (r' ≡ 0)
nothing p q r c p' q' r' c' C D e e' h = (zero_of r c' D (omega (arith, ap (λ (z : ℕ). z * c') e, ap (λ (z : ℕ). z * c) e')), zero_of r' c C (omega (arith, ap (λ (z : ℕ). z * c') e, ap (λ (z : ℕ). z * c) e')))
  where
    zero_of : (r c : ℕ) → 0 < c → r * c ≤ 0 → r ≡ 0
    zero_of r c C h = first-zero r 1 c (lit< tt) C (omega arith)

pub rounds_mono : (f : Format) (x : Float) (p q c : ℕ) (y : Float) (p' q' c' : ℕ) → 0 < c → 0 < c' → Rounds f x p q c → Rounds f y p' q' c' → p * c' + q' * c ≤ p' * c + q * c' → T (le x y)
rounds_mono f x p q c y p' q' c' C D (above r e i) (above r' e' j) h = rw (i, j) (round_mono f r c r' c' C D (grows p q r c p' q' r' c' e e' h))
rounds_mono f x p q c y p' q' c' C D (above r e i) (below r' e' j) h =
    let z = nothing p q r c p' q' r' c' C D e e' h in
    rw (i, j, z.0, z.1, round-zero f false c C, round-zero f true c' D) (unfold le in tt)
rounds_mono f x p q c y p' q' c' C D (below r e i) (above r' e' j) h = rw (i, j) (signs (round f true r c) (round f false r' c') (round_sign f true r c) (round_sign f false r' c'))
rounds_mono f x p q c y p' q' c' C D (below r e i) (below r' e' j) h =
    rw (i, j, round-turned f r c, round-turned f r' c') (neg_anti _ _ (round_mono f r' c' r c D C (grows q' p' r' c' q p r c e' e (omega arith))))

-- ---- the sum

abbrev pub sum_plus : Float → Float → ℕ
sum_plus x y = plus x * den y + plus y * den x

abbrev pub sum_minus : Float → Float → ℕ
sum_minus x y = minus x * den y + minus y * den x

-- parts of different signs
first-minus : (f : Format) (a b c p q : ℕ) → p ≡ a → q ≡ b → Rounds f (sum f false a true b c) p q c
unfolding sum
first-minus f a b c p q i j = go (nat_lt a b) refl
  where
    go : (t : Bool) → nat_lt a b ≡ t → Rounds f (cond t (round f true (b - a) c) (round f false (a - b) c)) p q c
    go true u = below (b - a) (omega (arith, ltb-true)) refl
    go false u = above (a - b) (omega (arith, ltb-false)) refl

minus-first : (f : Format) (a b c p q : ℕ) → p ≡ b → q ≡ a → Rounds f (sum f true a false b c) p q c
unfolding sum
minus-first f a b c p q i j = go (nat_lt a b) (nat_lt b a) refl refl
  where
    go : (t u : Bool) → nat_lt a b ≡ t → nat_lt b a ≡ u → Rounds f (cond t (round f false (b - a) c) (round f u (a - b) c)) p q c
    go true u v w = above (b - a) (omega (arith, ltb-true)) refl
    go false true v w = below (a - b) (omega (arith, ltb-true)) refl
    go false false v w = above (a - b) (omega (arith, ltb-false)) refl

pub add_rounds : (f : Format) (x y : Float) → T (finite x) → T (finite y) → Rounds f (add f x y) (sum_plus x y) (sum_minus x y) (den x * den y)
unfolding add sum
add_rounds f (fin false m e) (fin false n d) p q = above (m * up e * down d + n * up d * down e) (omega arith) refl
add_rounds f (fin false m e) (fin true n d) p q = first-minus f (m * up e * down d) (n * up d * down e) (down e * down d) _ _ (omega arith) (omega arith)
add_rounds f (fin true m e) (fin false n d) p q = minus-first f (m * up e * down d) (n * up d * down e) (down e * down d) _ _ (omega arith) (omega arith)
add_rounds f (fin true m e) (fin true n d) p q = below (m * up e * down d + n * up d * down e) (omega arith) refl
add_rounds f nan y p q = elim p [ ]
add_rounds f (inf _) y p q = elim p [ ]
add_rounds f (fin false m e) nan p q = elim q [ ]
add_rounds f (fin false m e) (inf _) p q = elim q [ ]
add_rounds f (fin true m e) nan p q = elim q [ ]
add_rounds f (fin true m e) (inf _) p q = elim q [ ]

-- ---- the product

pub mul-rounds : (f : Format) (x y : Float) → T (finite x) → T (finite y) → Rounds f (mul f x y) (plus x * plus y + minus x * minus y) (plus x * minus y + minus x * plus y) (den x * den y)
unfolding mul
mul-rounds f (fin false m e) (fin false n d) p q = above (m * up e * (n * up d)) (omega arith) refl
mul-rounds f (fin false m e) (fin true n d) p q = below (m * up e * (n * up d)) (omega arith) refl
mul-rounds f (fin true m e) (fin false n d) p q = below (m * up e * (n * up d)) (omega arith) refl
mul-rounds f (fin true m e) (fin true n d) p q = above (m * up e * (n * up d)) (omega arith) refl
mul-rounds f nan y p q = elim p [ ]
mul-rounds f (inf _) y p q = elim p [ ]
mul-rounds f (fin false m e) nan p q = elim q [ ]
mul-rounds f (fin false m e) (inf _) p q = elim q [ ]
mul-rounds f (fin true m e) nan p q = elim q [ ]
mul-rounds f (fin true m e) (inf _) p q = elim q [ ]
