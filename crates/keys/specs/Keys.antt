-- The order of keys: byte by byte, a prefix being smaller. Definitions only.
use Rattle.std.specs.Prelude.{ℕ, List, [], ◌∷◌, Bool, true, false, not, cond, ltb}
use Rattle.std.specs.declared.cmp.Ordering.{Ordering}
use Rattle.std.specs.declared.cmp.Ordering.TheVariants.{Less, Equal, Greater}

unfoldable pub order_of : List ℕ → List ℕ → Ordering
order_of [] [] = Equal
order_of [] (y ∷ ys) = Less
order_of (x ∷ xs) [] = Greater
order_of (x ∷ xs) (y ∷ ys) = cond (ltb x y) Less (cond (ltb y x) Greater (order_of xs ys))

-- the order's number: smaller, equal, larger
abbrev pub order_number : Ordering → ℕ
order_number Less = 0
order_number Equal = 1
order_number Greater = 2

abbrev pub is_less : Ordering → Bool
is_less Less = true
is_less Equal = false
is_less Greater = false

unfoldable pub key_lt : List ℕ → List ℕ → Bool
key_lt a b = is_less (order_of a b)

unfoldable pub key_le : List ℕ → List ℕ → Bool
key_le a b = not (is_less (order_of b a))

-- the smaller and the larger of two keys; of equal ones the first
unfoldable pub lesser_of : List ℕ → List ℕ → List ℕ
lesser_of a b = cond (is_less (order_of b a)) b a

unfoldable pub greater_of : List ℕ → List ℕ → List ℕ
greater_of a b = cond (is_less (order_of a b)) b a
