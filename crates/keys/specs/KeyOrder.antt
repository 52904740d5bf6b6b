-- The order of keys is the library's order of slices of bytes.
use Rattle.std.specs.Prelude.{◌≡◌, refl, ℕ, List, [], ◌∷◌, Bool, true, false, not, cond, ltb}
use Rattle.std.proofs.Common.{◌∙◌, arith, ltb-true, ltb-false, eq-eqb, ne_eqb, is_lt, is_ge}
use Rattle.std.specs.declared.cmp.Ordering.{Ordering}
use Rattle.std.specs.declared.cmp.Ordering.TheVariants.{Less, Equal, Greater}
use Rattle.std.specs.Ordering.{nat_cmp, ordering_then}
use Rattle.std.specs.Cmp.Lexicographic.{slice_cmp}
use Rattle.keys.specs.Keys.{order_of, is_less}

-- of two bytes and what the rest says
step : (x y : ℕ) (o : Ordering) → ordering_then (nat_cmp x y) o ≡ cond (ltb x y) Less (cond (ltb y x) Greater o)
step x y o = first (ltb x y) refl (ltb y x) refl
  where
    first : (s : Bool) → ltb x y ≡ s → (t : Bool) → ltb y x ≡ t → ordering_then (nat_cmp x y) o ≡ cond s Less (cond t Greater o)
    first true a t b = rw a
    first false a true b = rw (a, ne_eqb x y (omega (arith, ltb-true y x b)))
    first false a false b = rw (a, eq-eqb x y (omega (arith, ltb-false x y a, ltb-false y x b)))

pub order_slices : (a b : List ℕ) → slice_cmp nat_cmp a b ≡ order_of a b
unfolding order_of
order_slices [] [] = refl
order_slices [] (y ∷ ys) = refl
order_slices (x ∷ xs) [] = refl
order_slices (x ∷ xs) (y ∷ ys) = step x y (slice_cmp nat_cmp xs ys) ∙ rw (order_slices xs ys)

-- the library's tests of it
pub less_is : (o : Ordering) → is_lt o ≡ is_less o
less_is Less = refl
less_is Equal = refl
less_is Greater = refl

pub at_least_is : (o : Ordering) → is_ge o ≡ not (is_less o)
at_least_is Less = refl
at_least_is Equal = refl
at_least_is Greater = refl
