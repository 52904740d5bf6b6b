-- Whether a test holds of one of a list, and the search for that one, place by place.
use Rattle.std.specs.Prelude.{ℕ, zero, suc, ◌+◌, ◌≤◌, ◌<◌, ◌≡◌, ◌⊎◌, Bool, ◌||◌, length, drop, get_or}
use Rattle.std.proofs.Common.{add-one, arith, ◌∙◌, true≢false, drop_of_length-le, drop-cons}
use Rattle.std.proofs.Math.Path.{refl, sym, ap}
use Rattle.std.proofs.Math.Logic.{⊎_elim}
use Rattle.std.proofs.Math.Bool.{true, false, or_assoc, or-false}
use mathlib.Core.List.Memᴰ
use mathlib.Core.List.{List, [], ◌∷◌, Memᴰ}
use Rattle.std.specs.List.{list_any}
use Rattle.lists.specs.Tests.{neither}

unfoldable pub any_of : {X : Type 0} → (X → Bool) → List X → Bool
any_of p [] = false
any_of p (x ∷ xs) = p x || any_of p xs

module _ {X : Type 0} where
  -- the library's name of it
  pub any_list : (p : X → Bool) (xs : List X) → any_of p xs ≡ list_any p xs
  unfolding any_of
  any_list p [] = refl
  any_list p (x ∷ xs) = ap (λ (b : Bool). p x || b) (any_list p xs)

  -- where it holds of none, it does not hold of any one
  pub any-no : (p : X → Bool) (xs : List X) → any_of p xs ≡ false → (x : X) → Memᴰ x xs → p x ≡ false
  unfolding any_of
  any-no p [] e x m = absurd (Memᴰ.not-nil m)
  any-no p (y ∷ ys) e x m =
      let h = neither (p y) (any_of p ys) e in
      ⊎_elim (λ k. rw k h.0) (any-no p ys h.1 x) (Memᴰ.cases_cons m)

  -- and where it holds of no one, it holds of none
  pub any_none : (p : X → Bool) (xs : List X) → ((x : X) → Memᴰ x xs → p x ≡ false) → any_of p xs ≡ false
  unfolding any_of
  any_none p [] h = refl
  any_none p (x ∷ xs) h = rw (h x (Memᴰ.head refl)) (any_none p xs (λ y m. h y (Memᴰ.tail m)))

  -- it holds of one of those that it holds of
  pub any-yes : (p : X → Bool) (xs : List X) → any_of p xs ≡ true → (x : X) × Memᴰ x xs × (p x ≡ true)
  unfolding any_of
  any-yes p [] e = absurd (true≢false (sym e))
  any-yes p (x ∷ xs) e = go (p x) refl e (any-yes p xs)
    where
      go : (b : Bool) → p x ≡ b → b || any_of p xs ≡ true → (any_of p xs ≡ true → (y : X) × Memᴰ y xs × (p y ≡ true)) → (y : X) × Memᴰ y (x ∷ xs) × (p y ≡ true)
      go true h k f = (x, Memᴰ.head refl, h)
      go false h k f = let r = f k in (r.0, Memᴰ.tail r.1, r.2)

  -- and where it holds of one, it holds of some
  pub any-has : (p : X → Bool) (xs : List X) (x : X) → Memᴰ x xs → p x ≡ true → any_of p xs ≡ true
  any-has p xs x m e = go (any_of p xs) refl
    where
      go : (b : Bool) → any_of p xs ≡ b → any_of p xs ≡ true
      go true h = h
      go false h = absurd (true≢false (sym e ∙ any-no p xs h x m))

  pub get_or_in : (xs : List X) (i : ℕ) (d : X) → i < length xs → Memᴰ (get_or xs i d) xs
  get_or_in [] i d h = absurd (omega arith)
  get_or_in (x ∷ xs) zero d h = Memᴰ.head refl
  get_or_in (x ∷ xs) (suc i) d h = Memᴰ.tail (get_or_in xs i d (omega arith))

  -- each one stands at a place
  pub in_at : (xs : List X) (d x : X) → Memᴰ x xs → (i : ℕ) × (i < length xs) × (x ≡ get_or xs i d)
  in_at [] d x m = absurd (Memᴰ.not-nil m)
  in_at (y ∷ ys) d x m =
      ⊎_elim (λ e. (0, omega arith, e)) (λ k. let p = in_at ys d x k in (suc p.0, omega (arith, p.1), p.2)) (Memᴰ.cases_cons m)

  pub any_at : (p : X → Bool) (d : X) (xs : List X) (i : ℕ) → any_of p xs ≡ false → i < length xs → p (get_or xs i d) ≡ false
  any_at p d xs i e h = any-no p xs e (get_or xs i d) (get_or_in xs i d h)

-- the search: it holds of none before i
pub record Seeking {X : Type 0} (p : X → Bool) (xs : List X) (i : ℕ) : Type 0 where
  pub within : i ≤ length xs
  pub none : any_of p xs ≡ any_of p (drop i xs)

module _ {X : Type 0} {p : X → Bool} {xs : List X} where
  pub seek_start : Seeking p xs 0
  seek_start = record { within = omega arith; none = refl }

  module _ {i : ℕ} (d : X) (s : Seeking p xs i) (h : i < length xs) where
    more : any_of p (drop i xs) ≡ p (get_or xs i d) || any_of p (drop (i + 1) xs)
    unfolding any_of
    more = rw (drop-cons xs i d h, add-one)

    pub seek_found : p (get_or xs i d) ≡ true → true ≡ any_of p xs
    seek_found t = sym (s.none ∙ more ∙ rw t)

    pub seek_next : p (get_or xs i d) ≡ false → Seeking p xs (i + 1)
    seek_next t = record { within = omega arith; none = s.none ∙ more ∙ rw t }

  pub seek_end : {i : ℕ} → Seeking p xs i → length xs ≤ i → false ≡ any_of p xs
  unfolding any_of
  seek_end {i} s h = sym (s.none ∙ rw (drop_of_length-le xs h))

-- the test of every one, with no stop: `found` is what was known at first, or that it holds of one before i
pub record Testing {X : Type 0} (p : X → Bool) (xs : List X) (all : Bool) (i : ℕ) (found : Bool) : Type 0 where
  pub within : i ≤ length xs
  pub rest : all ≡ found || any_of p (drop i xs)

module _ {X : Type 0} {p : X → Bool} {xs : List X} where
  pub test-start : {first : Bool} → Testing p xs (first || any_of p xs) 0 first
  test-start = record { within = omega arith; rest = refl }

  module _ {all found : Bool} {i : ℕ} (t : Testing p xs all i found) where
    pub test-next : (d : X) → i < length xs → Testing p xs all (i + 1) (found || p (get_or xs i d))
    unfolding any_of
    test-next d h =
        record { within = omega arith; rest = t.rest ∙ rw (drop-cons xs i d h, add-one) (sym (or_assoc found _ _)) }

    pub test-end : length xs ≤ i → found ≡ all
    unfolding any_of
    test-end h = sym (t.rest ∙ rw (drop_of_length-le xs h) (or-false found))
