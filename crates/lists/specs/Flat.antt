-- What a function makes of each of a list, joined in order, place by place.
use Rattle.std.specs.Prelude.{ℕ, ◌+◌, ◌*◌, ◌≤◌, ◌<◌, ◌≡◌, length, drop, get_or}
use Rattle.std.proofs.Common.{add-one, ◌∙◌, drop_of_length-le, drop-cons}
use native.Mathlib.Omega.{arith}
use Rattle.std.proofs.Math.Path.{refl, sym, ap}
use mathlib.Core.List.{List, [], ◌∷◌, ◌++◌, flat_map, append_assoc}
use Rattle.std.proofs.Math.ListN.{length-append}

module _ {X Y : Type 0} (f : X → List Y) where
  pub flat_more : (xs : List X) (i : ℕ) (d : X) → i < length xs → flat_map f (drop i xs) ≡ f (get_or xs i d) ++ flat_map f (drop (i + 1) xs)
  unfolding flat_map
  flat_more xs i d h = rw (drop-cons xs i d h, add-one)

  pub flat_end : (xs : List X) (i : ℕ) → length xs ≤ i → flat_map f (drop i xs) ≡ []
  unfolding flat_map
  flat_end xs i h = rw (drop_of_length-le xs h)

  pub flat_append : (xs ys : List X) → flat_map f (xs ++ ys) ≡ flat_map f xs ++ flat_map f ys
  unfolding flat_map
  flat_append [] ys = refl
  flat_append (x ∷ xs) ys = ap (λ (l : List Y). f x ++ l) (flat_append xs ys) ∙ sym (append_assoc (f x) (flat_map f xs) (flat_map f ys))

  pub flat_length : (w : ℕ) → ((x : X) → length (f x) ≡ w) → (xs : List X) → length (flat_map f xs) ≡ w * length xs
  unfolding flat_map
  flat_length w e [] = omega arith
  flat_length w e (x ∷ xs) = omega (arith, length-append (f x) (flat_map f xs), e x, flat_length w e xs)

  pub flat_small : (w : ℕ) → ((x : X) → length (f x) ≤ w) → (xs : List X) → length (flat_map f xs) ≤ w * length xs
  unfolding flat_map
  flat_small w e [] = omega arith
  flat_small w e (x ∷ xs) = omega (arith, length-append (f x) (flat_map f xs), e x, flat_small w e xs)
