-- The absolute value by the float's order with zero.
use Rattle.std.specs.Prelude.{◌≡◌, ℕ, zero, suc, ◌+◌, ◌*◌, ◌≤◌, Bool, true, false, ◌&&◌, T, ◌==◌, ◌≢◌, nat_lt, refl, Float}
use Rattle.std.proofs.Common.{sym, subst, arith, ltb-true, ltb-false, eqb-true, eq-eqb}
use Rattle.std.specs.Float.{nan, inf, fin, binary64}
use Rattle.std.specs.Float.Ieee.{neg, eq, lt, fits, up, down, of_bits}
use Rattle.std.specs.Float.Ieee.Bits.{of_bits-fits}
use Rattle.std.specs.Float.Ieee.Back.{whole_unique}
use Rattle.arith.specs.Floats.{f0, absolute_of}

never : {A : Type 0} → true ≡ false → A
never e = absurd (subst T e tt)

pub negative : (x : Float) → lt x f0 ≡ true → neg x ≡ absolute_of x
unfolding lt neg absolute_of of_bits
negative nan e = refl
negative (inf true) e = refl
negative (inf false) e = never (sym e)
negative (fin true m k) e = refl
negative (fin false m k) e = no (m * up k * 1) (0 * down k) e refl where
  no : {A : Type 0} (a b : ℕ) → nat_lt a b ≡ true → b ≡ 0 * down k → A
  no a b h z = absurd (omega (arith, ltb-true a b h))

and_first : (a b : Bool) → a && b ≡ true → a ≡ true
and_first true b e = refl
and_first false b e = e

-- a zero of either sign: what fits is written in one way
pub none : (x : Float) → T (fits binary64 x) → eq x f0 ≡ true → f0 ≡ absolute_of x
unfolding eq absolute_of fits of_bits
none nan t e = never (sym e)
none (inf s) t e = never (sym e)
none (fin s m k) t e =
    whole_unique binary64 f0 (fin false m k) false 0 (of_bits-fits binary64 0) (either m t) (refl, refl)
    (refl, eqb-true (m * up k * 1) (0 * down k) (and_first _ _ e)) where
      either : (m : ℕ) → T (fits binary64 (fin s m k)) → T (fits binary64 (fin false m k))
      either zero h = h
      either (suc m) h = h

pub positive : (x : Float) → lt x f0 ≡ false → eq x f0 ≡ false → x ≡ absolute_of x
unfolding eq lt absolute_of of_bits
positive nan p q = refl
positive (inf true) p q = never p
positive (inf false) p q = refl
positive (fin true m k) p q = absurd (no (m * up k * 1) (0 * down k) p q) where
  no : (a b : ℕ) → nat_lt 0 (a + b) ≡ false → (a == b) && (a == 0) ≢ false
  no a b h g =
      let z : a + b ≤ 0 = ltb-false 0 (a + b) h in
      never (simp (eq-eqb a b (omega arith), eq-eqb a 0 (omega arith)) at g)
positive (fin false m k) p q = refl
