-- Those of a list of which a test holds, in their order; and the same, place by place.
use Prim.Native.Nat.{ℕ, zero, suc, ◌+◌, ◌≤◌, ◌<◌}
use Rattle.std.proofs.Common.{add-one, sym, ◌∙◌, true≢false, drop_of_length-le, drop-cons}
use native.Mathlib.Omega.{arith}
use Rattle.std.specs.Prelude.{◌≡◌, ◌⊎◌, Bool, ◌&&◌, drop}
use Rattle.std.proofs.Math.Path.{refl, ap}
use Rattle.std.proofs.Math.Logic.{⊎_elim}
use Rattle.std.proofs.Math.Bool.{true, false, cond}
use mathlib.Core.List.Memᴰ
use mathlib.Core.List.{List, [], ◌∷◌, ◌++◌, map, Memᴰ}
use Rattle.std.proofs.Math.ListN.{length, get_or}
use Rattle.lists.specs.Records.{tabulate, places_up_to, places-at, tabulate-length}

unfoldable pub filter_of : {X : Type 0} → (X → Bool) → List X → List X
filter_of p [] = []
filter_of p (x ∷ xs) = cond (p x) (x ∷ filter_of p xs) (filter_of p xs)

module _ {X : Type 0} (p : X → Bool) where
  pub filter_in : (xs : List X) (x : X) → Memᴰ x (filter_of p xs) → Memᴰ x xs × (p x ≡ true)
  unfolding filter_of
  filter_in [] x m = absurd (Memᴰ.not-nil m)
  filter_in (y ∷ ys) x m = go (p y) refl m (filter_in ys x)
    where
      go : (t : Bool) → p y ≡ t → Memᴰ x (cond t (y ∷ filter_of p ys) (filter_of p ys)) → (Memᴰ x (filter_of p ys) → Memᴰ x ys × (p x ≡ true)) → Memᴰ x (y ∷ ys) × (p x ≡ true)
      go true e k f = ⊎_elim (λ h. (Memᴰ.head h, ap p h ∙ e)) (λ h. (Memᴰ.tail (f h).0, (f h).1)) (Memᴰ.cases_cons k)
      go false e k f = (Memᴰ.tail (f k).0, (f k).1)

  pub filter-has : (xs : List X) (x : X) → Memᴰ x xs → p x ≡ true → Memᴰ x (filter_of p xs)
  unfolding filter_of
  filter-has [] x m e = absurd (Memᴰ.not-nil m)
  filter-has (y ∷ ys) x m e = go (p y) refl (Memᴰ.cases_cons m) (λ k. filter-has ys x k e)
    where
      go : (t : Bool) → p y ≡ t → (x ≡ y) ⊎ Memᴰ x ys → (Memᴰ x ys → Memᴰ x (filter_of p ys)) → Memᴰ x (cond t (y ∷ filter_of p ys) (filter_of p ys))
      go true h k f = ⊎_elim (λ q. Memᴰ.head q) (λ q. Memᴰ.tail (f q)) k
      go false h k f = ⊎_elim (λ q. absurd (true≢false (sym e ∙ ap p q ∙ h))) f k

  -- where none is kept, the test holds of no one
  pub filter_none : (xs : List X) → filter_of p xs ≡ [] → (x : X) → Memᴰ x xs → p x ≡ false
  filter_none xs e x m = go (p x) refl
    where
      go : (t : Bool) → p x ≡ t → p x ≡ false
      go true h = absurd (Memᴰ.not-nil (rw e at (filter-has xs x m h)))
      go false h = h

  -- where the test holds at no place, none is kept
  pub filter_nowhere : (d : X) (xs : List X) → ((i : ℕ) → i < length xs → p (get_or xs i d) ≡ false) → filter_of p xs ≡ []
  unfolding filter_of
  filter_nowhere d [] f = refl
  filter_nowhere d (x ∷ xs) f = rw (f 0 (omega arith)) (filter_nowhere d xs (λ i h. f (suc i) (omega arith)))

  pub filter-small : (xs : List X) → length (filter_of p xs) ≤ length xs
  unfolding filter_of
  filter-small [] = omega arith
  filter-small (x ∷ xs) = go (p x) (filter-small xs)
    where
      go : (t : Bool) → length (filter_of p xs) ≤ length xs → length (cond t (x ∷ filter_of p xs) (filter_of p xs)) ≤ suc (length xs)
      go true h = omega arith
      go false h = omega arith

  pub filter-append : (xs ys : List X) → filter_of p (xs ++ ys) ≡ filter_of p xs ++ filter_of p ys
  unfolding filter_of
  filter-append [] ys = refl
  filter-append (x ∷ xs) ys = go (p x) (filter-append xs ys)
    where
      go : (t : Bool) → filter_of p (xs ++ ys) ≡ filter_of p xs ++ filter_of p ys → cond t (x ∷ filter_of p (xs ++ ys)) (filter_of p (xs ++ ys)) ≡ cond t (x ∷ filter_of p xs) (filter_of p xs) ++ filter_of p ys
      go true e = ap (λ (l : List X). x ∷ l) e
      go false e = e

  -- from place i on, by what stands at i
  module _ (xs : List X) (i : ℕ) (d : X) where
    pub filter-keep : i < length xs → p (get_or xs i d) ≡ true → filter_of p (drop i xs) ≡ get_or xs i d ∷ filter_of p (drop (i + 1) xs)
    unfolding filter_of
    filter-keep h e = rw (drop-cons xs i d h, e, add-one)

    pub filter_skip : i < length xs → p (get_or xs i d) ≡ false → filter_of p (drop i xs) ≡ filter_of p (drop (i + 1) xs)
    unfolding filter_of
    filter_skip h e = rw (drop-cons xs i d h, e, add-one)

  pub filter-end : (xs : List X) (i : ℕ) → length xs ≤ i → filter_of p (drop i xs) ≡ []
  unfolding filter_of
  filter-end xs i h = rw (drop_of_length-le xs h)

module _ {X : Type 0} where
  pub filter-both : (p q : X → Bool) (xs : List X) → filter_of p (filter_of q xs) ≡ filter_of (λ x. q x && p x) xs
  unfolding filter_of
  filter-both p q [] = refl
  filter-both p q (x ∷ xs) = go (q x) (filter-both p q xs)
    where
      go : (t : Bool) → filter_of p (filter_of q xs) ≡ filter_of (λ y. q y && p y) xs → filter_of p (cond t (x ∷ filter_of q xs) (filter_of q xs)) ≡ cond (t && p x) (x ∷ filter_of (λ y. q y && p y) xs) (filter_of (λ y. q y && p y) xs)
      go true e = ap (λ (l : List X). cond (p x) (x ∷ l) l) e
      go false e = e

  -- two tests that hold of no one together keep no more than there are
  pub filter-apart : (p q : X → Bool) (xs : List X) → ((x : X) → p x ≡ true → q x ≡ false) → length (filter_of p xs) + length (filter_of q xs) ≤ length xs
  unfolding filter_of
  filter-apart p q [] h = omega arith
  filter-apart p q (x ∷ xs) h = go (p x) (q x) (h x) (filter-apart p q xs h)
    where
      go : (s t : Bool) → (s ≡ true → t ≡ false) → length (filter_of p xs) + length (filter_of q xs) ≤ length xs → length (cond s (x ∷ filter_of p xs) (filter_of p xs)) + length (cond t (x ∷ filter_of q xs) (filter_of q xs)) ≤ suc (length xs)
      go true true k r = absurd (true≢false (k refl))
      go true false k r = omega arith
      go false true k r = omega arith
      go false false k r = omega arith

  -- a test that holds of each keeps all
  pub filter-all : (p : X → Bool) (xs : List X) → ((x : X) → p x ≡ true) → filter_of p xs ≡ xs
  unfolding filter_of
  filter-all p [] h = refl
  filter-all p (x ∷ xs) h = rw (h x, filter-all p xs h)

-- the places of n things of which a test holds, from place i on
module _ (p : ℕ → Bool) (n : ℕ) where
  pub places-small : length (filter_of p (places_up_to n)) ≤ n
  places-small = omega (arith, filter-small p (places_up_to n), tabulate-length (λ i. i) n 0)

  module _ (i : ℕ) where
    pub places-keep : i < n → p i ≡ true → filter_of p (drop i (places_up_to n)) ≡ i ∷ filter_of p (drop (i + 1) (places_up_to n))
    places-keep h e =
        rw (places-at n i h) at (filter-keep p (places_up_to n) i 0 (rw tabulate-length h) (rw (places-at n i h) e))

    pub places_skip : i < n → p i ≡ false → filter_of p (drop i (places_up_to n)) ≡ filter_of p (drop (i + 1) (places_up_to n))
    places_skip h e = filter_skip p (places_up_to n) i 0 (rw tabulate-length h) (rw (places-at n i h) e)

    pub places-end : n ≤ i → filter_of p (drop i (places_up_to n)) ≡ []
    places-end h = filter-end p (places_up_to n) i (rw tabulate-length h)

-- kept by their places, they are those kept themselves
module _ {X : Type 0} (p : X → Bool) (d : X) (xs : List X) where
  from_place : (n i : ℕ) → i + n ≡ length xs → map (λ k. get_or xs k d) (filter_of (λ k. p (get_or xs k d)) (tabulate (λ k. k) n i)) ≡ filter_of p (drop i xs)
  unfolding filter_of tabulate
  from_place zero i e = rw (drop_of_length-le xs {i = i} (omega arith))
  from_place (suc n) i e = rw (drop-cons xs i d (omega arith)) (go (p (get_or xs i d)) (from_place n (suc i) (omega arith)))
    where
      go : (b : Bool) → map (λ k. get_or xs k d) (filter_of (λ k. p (get_or xs k d)) (tabulate (λ k. k) n (suc i))) ≡ filter_of p (drop (suc i) xs)
          → map (λ k. get_or xs k d) (cond b (i ∷ filter_of (λ k. p (get_or xs k d)) (tabulate (λ k. k) n (suc i))) (filter_of (λ k. p (get_or xs k d)) (tabulate (λ k. k) n (suc i)))) ≡ cond b (get_or xs i d ∷ filter_of p (drop (suc i) xs)) (filter_of p (drop (suc i) xs))
      go true k = ap (λ (l : List X). get_or xs i d ∷ l) k
      go false k = k

  pub filter-places : map (λ k. get_or xs k d) (filter_of (λ k. p (get_or xs k d)) (places_up_to (length xs))) ≡ filter_of p xs
  filter-places = from_place (length xs) 0 (omega arith)
