-- The order of floats: `le` and `lt` are a total order and its strict part on all values but the NaN, which neither holds of.
use Rattle.std.specs.Prelude.{◌≡◌, ℕ, ◌+◌, ◌*◌, ◌≤◌, Bool, true, false, not, ◌&&◌, ◌||◌, T, ◌⊎◌, ◌==◌, nat_lt, refl, Float}
use Rattle.std.proofs.Common.{sym, ap, subst, ◌∙◌, inl, inr, true≢false, mul-le-mul_right, le_of_mul-le-mul_right, arith, ltb-true, ltb-false, le-ltb, eq-eqb, ne_eqb, ltb→lt, lt→ltb, nltb→le, eqb→eq, T_not}
use Rattle.std.proofs.Math.Bool.{and-true}
use Rattle.std.specs.Float.{nan, inf, fin}
use Rattle.std.specs.Float.Ieee.{up, lt, eq, le, is_nan}
use Rattle.std.specs.Float.Ieee.Bits.{is_true}
use Rattle.std.specs.Float.Ieee.Fits.{eq→eqb, and_i, and_l, and_r}
use Rattle.std.specs.Float.Ieee.Positive.{den, den_pos}
use Rattle.std.specs.Float.Ieee.Scale.{finite}

-- ---- tests of whole numbers
same : (p q : Bool) → (T p → T q) × (T q → T p) → p ≡ q
same true true h = refl
same true false h = absurd (h.0 tt)
same false true h = absurd (h.1 tt)
same false false h = refl

zeros : (a b : ℕ) → T (a == b && a == 0) → a + b ≡ 0
zeros a b h = omega (arith, eqb→eq a b (and_l (a == b) (a == 0) h), eqb→eq a 0 (and_r (a == b) (a == 0) h))

of_zeros : (a b : ℕ) → a + b ≡ 0 → T (a == b && a == 0)
of_zeros a b h = and_i (a == b) (a == 0) (omega (arith, eq→eqb)) (omega (arith, eq→eqb))

opposite : (u v : ℕ) → nat_lt u v || (u == v) ≡ not (nat_lt v u)
opposite u v = go (nat_lt u v) (nat_lt v u) refl refl
  where
    go : (p g : Bool) → nat_lt u v ≡ p → nat_lt v u ≡ g → p || (u == v) ≡ not g
    go true true a b = absurd (omega (arith, ltb-true))
    go true false a b = refl
    go false true a b = ne_eqb u v (λ e. omega (arith, ltb-true))
    go false false a b = eq-eqb u v (omega (arith, ltb-false))

-- ---- finite values: x is (plus x - minus x) / den x, so that one pair of sums compares x and y whatever their signs
abbrev pub plus : Float → ℕ
plus nan = 0
plus (inf s) = 0
plus (fin true m e) = 0
plus (fin false m e) = m * up e

abbrev pub minus : Float → ℕ
minus nan = 0
minus (inf s) = 0
minus (fin true m e) = m * up e
minus (fin false m e) = 0

abbrev pub side : Float → Float → ℕ
side x y = plus x * den y + minus y * den x

lt-fin : (x y : Float) → T (finite x) → T (finite y) → lt x y ≡ nat_lt (side x y) (side y x)
unfolding lt
lt-fin (fin false m e) (fin false n d) p q = same _ _ (omega (arith, ltb→lt, lt→ltb))
lt-fin (fin false m e) (fin true n d) p q = same _ _ (omega (arith, ltb→lt, lt→ltb))
lt-fin (fin true m e) (fin false n d) p q = same _ _ (omega (arith, ltb→lt, lt→ltb))
lt-fin (fin true m e) (fin true n d) p q = same _ _ (omega (arith, ltb→lt, lt→ltb))
lt-fin nan y p q = elim p [ ]
lt-fin (inf _) y p q = elim p [ ]
lt-fin (fin false m e) nan p q = elim q [ ]
lt-fin (fin false m e) (inf _) p q = elim q [ ]
lt-fin (fin true m e) nan p q = elim q [ ]
lt-fin (fin true m e) (inf _) p q = elim q [ ]

eq-fin : (x y : Float) → T (finite x) → T (finite y) → eq x y ≡ (side x y == side y x)
unfolding eq
eq-fin (fin false m e) (fin false n d) p q = rw and-true (same _ _ (omega (arith, eqb→eq, eq→eqb)))
eq-fin (fin false m e) (fin true n d) p q = same _ _ (omega (arith, eqb→eq, eq→eqb, zeros, of_zeros))
eq-fin (fin true m e) (fin false n d) p q = same _ _ (omega (arith, eqb→eq, eq→eqb, zeros, of_zeros))
eq-fin (fin true m e) (fin true n d) p q = rw and-true (same _ _ (omega (arith, eqb→eq, eq→eqb)))
eq-fin nan y p q = elim p [ ]
eq-fin (inf _) y p q = elim p [ ]
eq-fin (fin false m e) nan p q = elim q [ ]
eq-fin (fin false m e) (inf _) p q = elim q [ ]
eq-fin (fin true m e) nan p q = elim q [ ]
eq-fin (fin true m e) (inf _) p q = elim q [ ]

le-fin : (x y : Float) → T (finite x) → T (finite y) → le x y ≡ not (nat_lt (side y x) (side x y))
unfolding le
le-fin x y p q = rw (lt-fin x y p q, eq-fin x y p q) (opposite (side x y) (side y x))

-- the order by those sums, both ways
pub sides : (x y : Float) → T (finite x) → T (finite y) → T (le x y) → side x y ≤ side y x
sides x y p q h = nltb→le (side y x) (side x y) (subst T (le-fin x y p q) h)

pub of_sides : (x y : Float) → T (finite x) → T (finite y) → side x y ≤ side y x → T (le x y)
of_sides x y p q h = rw (le-fin x y p q, le-ltb (side y x) (side x y) h) tt

trans-fin : (x y z : Float) → T (finite x) → T (finite y) → T (finite z) → T (le x y) → T (le y z) → T (le x z)
trans-fin x y z p q r h k =
    let c : side x z * den y ≤ side z x * den y = omega (arith, mul-le-mul_right (den z) (sides x y p q h), mul-le-mul_right (den x) (sides y z q r k)) in
    of_sides x z p r (le_of_mul-le-mul_right c (den_pos y))

-- ---- all values
pub le_is : (x y : Float) → is_nan x ≡ false → is_nan y ≡ false → le x y ≡ not (lt y x)
unfolding le is_nan
le_is nan y p q = absurd (true≢false p)
le_is (inf s) nan p q = absurd (true≢false q)
le_is (inf true) (inf true) p q = refl
le_is (inf true) (inf false) p q = refl
le_is (inf false) (inf true) p q = refl
le_is (inf false) (inf false) p q = refl
le_is (inf true) (fin t n d) p q = refl
le_is (inf false) (fin t n d) p q = refl
le_is (fin s m e) nan p q = absurd (true≢false q)
le_is (fin s m e) (inf true) p q = refl
le_is (fin s m e) (inf false) p q = refl
le_is (fin s m e) (fin t n d) p q = le-fin (fin s m e) (fin t n d) tt tt ∙ ap not (sym (lt-fin (fin t n d) (fin s m e) tt tt))

pub le_no_nan : (x y : Float) → T (le x y) → (is_nan x ≡ false) × (is_nan y ≡ false)
unfolding le is_nan
le_no_nan (inf s) (inf t) h = (refl, refl)
le_no_nan (inf s) (fin t n d) h = (refl, refl)
le_no_nan (fin s m e) (inf t) h = (refl, refl)
le_no_nan (fin s m e) (fin t n d) h = (refl, refl)
le_no_nan nan y h = elim h [ ]
le_no_nan (inf s) nan h = elim h [ ]
le_no_nan (fin s m e) nan h = elim h [ ]

pub le_trans : (x y z : Float) → T (le x y) → T (le y z) → T (le x z)
unfolding le
le_trans (inf true) (inf true) z h k = k
le_trans (inf true) (inf false) (inf false) h k = tt
le_trans (inf true) (fin t n d) (inf false) h k = tt
le_trans (inf true) (fin t n d) (fin r l f) h k = tt
le_trans (inf false) (inf false) z h k = k
le_trans (fin s m e) (inf false) (inf false) h k = tt
le_trans (fin s m e) (fin t n d) (inf false) h k = tt
le_trans (fin s m e) (fin t n d) (fin r l f) h k = trans-fin (fin s m e) (fin t n d) (fin r l f) tt tt tt h k
le_trans nan y z h k = elim h [ ]
le_trans (inf false) nan z h k = elim h [ ]
le_trans (inf false) (inf true) z h k = elim h [ ]
le_trans (inf false) (fin t n d) z h k = elim h [ ]
le_trans (inf true) nan z h k = elim h [ ]
le_trans (inf true) (inf false) nan h k = elim k [ ]
le_trans (inf true) (inf false) (inf true) h k = elim k [ ]
le_trans (inf true) (inf false) (fin r l f) h k = elim k [ ]
le_trans (inf true) (fin t n d) nan h k = elim k [ ]
le_trans (inf true) (fin t n d) (inf true) h k = elim k [ ]
le_trans (fin s m e) nan z h k = elim h [ ]
le_trans (fin s m e) (inf false) nan h k = elim k [ ]
le_trans (fin s m e) (inf false) (inf true) h k = elim k [ ]
le_trans (fin s m e) (inf false) (fin r l f) h k = elim k [ ]
le_trans (fin s m e) (inf true) z h k = elim h [ ]
le_trans (fin s m e) (fin t n d) nan h k = elim k [ ]
le_trans (fin s m e) (fin t n d) (inf true) h k = elim k [ ]

pub lt-le : (x y : Float) → T (lt x y) → T (le x y)
unfolding le
lt-le x y h = rw (is_true (lt x y) h) tt

pub lt_no_nan : (x y : Float) → T (lt x y) → (is_nan x ≡ false) × (is_nan y ≡ false)
lt_no_nan x y h = le_no_nan x y (lt-le x y h)

pub not_lt_le : (x y : Float) → is_nan x ≡ false → is_nan y ≡ false → lt y x ≡ false → T (le x y)
not_lt_le x y p q e = rw (le_is x y p q, e) tt

pub lt_not_le : (x y : Float) → T (lt x y) → T (le y x) → ⊥
lt_not_le x y h k =
    let n = le_no_nan y x k in
    T_not (lt x y) (subst T (le_is y x n.0 n.1) k) h

pub le_not_lt : (x y : Float) → T (le x y) → lt y x ≡ false
le_not_lt x y h = go (lt y x) (λ t. lt_not_le y x t h)
  where
    go : (b : Bool) → (T b → ⊥) → b ≡ false
    go true n = absurd (n tt)
    go false n = refl

pub total : (x y : Float) → is_nan x ≡ false → is_nan y ≡ false → T (le x y) ⊎ T (lt y x)
total x y p q = go (lt y x) refl
  where
    go : (b : Bool) → lt y x ≡ b → T (le x y) ⊎ T b
    go true e = inr tt
    go false e = inl (not_lt_le x y p q e)

pub le_refl : (x : Float) → is_nan x ≡ false → T (le x x)
le_refl x p = elim (total x x p p) [ inl h ↦ h | inr h ↦ lt-le x x h ]

pub lt_irrefl : (x : Float) → T (lt x x) → ⊥
lt_irrefl x h = lt_not_le x x h (lt-le x x h)

pub lt_of_lt_of_le : (x y z : Float) → T (lt x y) → T (le y z) → T (lt x z)
lt_of_lt_of_le x y z h k =
    elim (total z x (le_no_nan y z k).1 (lt_no_nan x y h).0) [ inl g ↦ absurd (lt_not_le x y h (le_trans y z x k g)) | inr g ↦ g ]

pub lt_of_le_of_lt : (x y z : Float) → T (le x y) → T (lt y z) → T (lt x z)
lt_of_le_of_lt x y z h k =
    elim (total z x (lt_no_nan y z k).1 (le_no_nan x y h).0) [ inl g ↦ absurd (lt_not_le y z k (le_trans z x y g h)) | inr g ↦ g ]
