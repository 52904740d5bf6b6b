-- Laws of the clamp to 0..1, of the minimum and of the maximum, by the order of floats.
use Rattle.std.specs.Prelude.{◌≡◌, Bool, true, false, cond, T, ◌⊎◌, pos, refl, Float}
use Rattle.std.proofs.Common.{inl, inr}
use Rattle.std.specs.Float.{nan, inf, fin}
use Rattle.std.specs.Float.Ieee.{of_bits, is_nan, lt, le}
use Rattle.std.specs.Float.Ieee.Bits.{is_true}
use Rattle.arith.specs.Floats.{f0, f1, clamp_of, minimum_of, maximum_of}
use Rattle.arith.specs.Floats.Order.{le_no_nan, le_trans, le_refl, lt-le, le_not_lt, not_lt_le}

-- what holds of each branch holds of the choice
chosen : (P : Float → Type 0) (t : Bool) {x y : Float} → (T t → P x) → (t ≡ false → P y) → P (cond t x y)
chosen P true f g = f tt
chosen P false f g = g refl

-- ---- the clamp
ends : T (le f0 f1)
unfolding le of_bits
ends = tt

numbers : (is_nan f0 ≡ false) × (is_nan f1 ≡ false)
numbers = le_no_nan f0 f1 ends

-- what it is: below 0, from 0 to 1, above 1, and of a NaN
pub clamp_below : (x : Float) → T (lt x f0) → clamp_of x ≡ f0
unfolding clamp_of
clamp_below x h = rw (is_true (lt x f0) h)

pub clamp_inside : (x : Float) → T (le f0 x) → T (le x f1) → clamp_of x ≡ x
unfolding clamp_of
clamp_inside x h k = rw (le_not_lt f0 x h, le_not_lt x f1 k)

pub clamp_above : (x : Float) → T (lt f1 x) → clamp_of x ≡ f1
unfolding clamp_of
clamp_above x h = rw (le_not_lt f0 x (le_trans f0 f1 x ends (lt-le f1 x h)), is_true (lt f1 x) h)

pub clamp_nan : clamp_of nan ≡ nan
unfolding clamp_of lt of_bits
clamp_nan = refl

pub clamp_low : (x : Float) → is_nan x ≡ false → T (le f0 (clamp_of x))
unfolding clamp_of
clamp_low x p =
    let P : Float → Type 0 = λ z. T (le f0 z) in
    chosen P (lt x f0) (λ l. le_refl f0 numbers.0) (λ l. chosen P (lt f1 x) (λ g. ends) (λ g. not_lt_le f0 x numbers.0 p l))

pub clamp_high : (x : Float) → is_nan x ≡ false → T (le (clamp_of x) f1)
unfolding clamp_of
clamp_high x p =
    let P : Float → Type 0 = λ z. T (le z f1) in
    chosen P (lt x f0) (λ l. ends) (λ l. chosen P (lt f1 x) (λ g. le_refl f1 numbers.1) (not_lt_le x f1 p numbers.1))

-- a bound from below of x and of 1 is one of x clamped
under_clamp : (z x : Float) → T (le z x) → T (le z f1) → T (le z (clamp_of x))
unfolding clamp_of
under_clamp z x h k =
    let P : Float → Type 0 = λ c. T (le z c) in
    chosen P (lt x f0) (λ l. le_trans z x f0 h (lt-le x f0 l)) (λ l. chosen P (lt f1 x) (λ g. k) (λ g. h))

pub clamp_mono : (x y : Float) → T (le x y) → T (le (clamp_of x) (clamp_of y))
unfolding clamp_of
clamp_mono x y h =
    let n = le_no_nan x y h in
    let P : Float → Type 0 = λ z. T (le z (clamp_of y)) in
    chosen P (lt x f0) (λ l. clamp_low y n.1)
    (λ l. chosen P (lt f1 x)
    (λ g. under_clamp f1 y (le_trans f1 x y (lt-le f1 x g) h) (le_refl f1 numbers.1))
    (λ g. under_clamp x y h (not_lt_le x f1 n.0 numbers.1 g)))

pub clamp_zero : clamp_of (fin true 0 (pos 0)) ≡ fin true 0 (pos 0)
unfolding le of_bits
clamp_zero = clamp_inside (fin true 0 (pos 0)) tt tt

-- ---- the minimum and the maximum
one_of : (n t : Bool) (a b : Float) → (cond n b (cond t b a) ≡ a) ⊎ (cond n b (cond t b a) ≡ b)
one_of true t a b = inr refl
one_of false true a b = inr refl
one_of false false a b = inl refl

pub minimum_one_of : (a b : Float) → (minimum_of a b ≡ a) ⊎ (minimum_of a b ≡ b)
unfolding minimum_of
minimum_one_of a b = one_of (is_nan a) (lt b a) a b

pub maximum_one_of : (a b : Float) → (maximum_of a b ≡ a) ⊎ (maximum_of a b ≡ b)
unfolding maximum_of
maximum_one_of a b = one_of (is_nan a) (lt a b) a b

pub minimum_le : (a b : Float) → is_nan a ≡ false → is_nan b ≡ false → T (le (minimum_of a b) a) × T (le (minimum_of a b) b)
unfolding minimum_of
minimum_le a b p q =
    rw p (chosen (λ z. T (le z a) × T (le z b)) (lt b a) (λ l. (lt-le b a l, le_refl b q)) (λ g. (le_refl a p, not_lt_le a b p q g)))

pub le_maximum : (a b : Float) → is_nan a ≡ false → is_nan b ≡ false → T (le a (maximum_of a b)) × T (le b (maximum_of a b))
unfolding maximum_of
le_maximum a b p q =
    rw p (chosen (λ z. T (le a z) × T (le b z)) (lt a b) (λ l. (lt-le a b l, le_refl b q)) (λ g. (le_refl a p, not_lt_le b a q p g)))

-- whatever the other is
pub le_maximum_right : (a b : Float) → is_nan b ≡ false → T (le b (maximum_of a b))
unfolding maximum_of
le_maximum_right a b q = chosen (λ z. T (le b z)) (is_nan a) (λ n. le_refl b q) (λ p. chosen (λ z. T (le b z)) (lt a b) (λ l. le_refl b q) (λ g. not_lt_le b a q p g))

with_nan : (x : Float) → ((minimum_of nan x ≡ x) × (minimum_of x nan ≡ x)) × ((maximum_of nan x ≡ x) × (maximum_of x nan ≡ x))
unfolding minimum_of maximum_of is_nan lt
with_nan nan = ((refl, refl), (refl, refl))
with_nan (inf s) = ((refl, refl), (refl, refl))
with_nan (fin s m e) = ((refl, refl), (refl, refl))

pub minimum_nan : (x : Float) → (minimum_of nan x ≡ x) × (minimum_of x nan ≡ x)
minimum_nan x = (with_nan x).0

pub maximum_nan : (x : Float) → (maximum_of nan x ≡ x) × (maximum_of x nan ≡ x)
maximum_nan x = (with_nan x).1
