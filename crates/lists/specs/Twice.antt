-- Whether a test holds of one of a list, or of two: how many are kept, and at which places they stand.
use Rattle.std.specs.Prelude.{◌≡◌, Bool, cond, get_or}
use Rattle.std.proofs.Math.Path.{refl}
use Rattle.std.proofs.Math.Bool.{true, false}
use mathlib.Core.List.{List, [], ◌∷◌}
use Prim.Native.Nat.{ℕ, zero, suc, ◌≤◌, ◌<◌}
use native.Mathlib.Omega.{arith}
use Rattle.std.proofs.Math.ListN.{length}
use Rattle.lists.specs.Filter.{filter_of}

module _ {X : Type 0} (p : X → Bool) (d : X) where
  -- it holds at i, and at a later place j
  pub record OfTwo (xs : List X) (i j : ℕ) : Type 0 where
    pub apart : i < j
    pub within : j < length xs
    pub one : p (get_or xs i d) ≡ true
    pub other : p (get_or xs j d) ≡ true

  pub keeps-one : (xs : List X) (i : ℕ) → i < length xs → p (get_or xs i d) ≡ true → 1 ≤ length (filter_of p xs)
  unfolding filter_of
  keeps-one [] i h e = absurd (omega arith)
  keeps-one (x ∷ xs) zero h e = rw e (omega arith)
  keeps-one (x ∷ xs) (suc i) h e = go (p x) (keeps-one xs i (omega arith) e)
    where
      go : (b : Bool) → 1 ≤ length (filter_of p xs) → 1 ≤ length (cond b (x ∷ filter_of p xs) (filter_of p xs))
      go true k = omega arith
      go false k = k

  pub keeps-two : (xs : List X) (i j : ℕ) → OfTwo xs i j → 2 ≤ length (filter_of p xs)
  unfolding filter_of
  keeps-two [] i j t = absurd (omega (arith, t.within))
  keeps-two (x ∷ xs) i zero t = absurd (omega (arith, t.apart))
  keeps-two (x ∷ xs) zero (suc j) t = rw t.one (omega (arith, keeps-one xs j (omega (arith, t.within)) t.other))
  keeps-two (x ∷ xs) (suc i) (suc j) t =
      go (p x) (keeps-two xs i j (record { apart = omega (arith, t.apart); within = omega (arith, t.within); one = t.one; other = t.other }))
    where
      go : (b : Bool) → 2 ≤ length (filter_of p xs) → 2 ≤ length (cond b (x ∷ filter_of p xs) (filter_of p xs))
      go true k = omega arith
      go false k = k

  -- and where as many are kept, there they stand
  pub one_kept : (xs : List X) → 1 ≤ length (filter_of p xs) → (i : ℕ) × (i < length xs) × (p (get_or xs i d) ≡ true)
  unfolding filter_of
  one_kept [] h = absurd (omega arith)
  one_kept (x ∷ xs) h = go (p x) refl h (one_kept xs)
    where
      go : (b : Bool) → p x ≡ b → 1 ≤ length (cond b (x ∷ filter_of p xs) (filter_of p xs)) → (1 ≤ length (filter_of p xs) → (i : ℕ) × (i < length xs) × (p (get_or xs i d) ≡ true))
          → (i : ℕ) × (i < length (x ∷ xs)) × (p (get_or (x ∷ xs) i d) ≡ true)
      go true e k f = (0, omega arith, e)
      go false e k f = let r = f k in (suc r.0, omega (arith, r.1), r.2)

  pub two-kept : (xs : List X) → 2 ≤ length (filter_of p xs) → (i : ℕ) × (j : ℕ) × OfTwo xs i j
  unfolding filter_of
  two-kept [] h = absurd (omega arith)
  two-kept (x ∷ xs) h = go (p x) refl h (two-kept xs) (one_kept xs)
    where
      go : (b : Bool) → p x ≡ b → 2 ≤ length (cond b (x ∷ filter_of p xs) (filter_of p xs)) → (2 ≤ length (filter_of p xs) → (i : ℕ) × (j : ℕ) × OfTwo xs i j)
          → (1 ≤ length (filter_of p xs) → (i : ℕ) × (i < length xs) × (p (get_or xs i d) ≡ true)) → (i : ℕ) × (j : ℕ) × OfTwo (x ∷ xs) i j
      go true e k f g =
          let r = g (omega arith) in
          (0, suc r.0, record { apart = omega arith; within = omega (arith, r.1); one = e; other = r.2 })
      go false e k f g =
          let r = f k in
          let t = r.2 in
          (suc r.0, suc r.1, record { apart = omega (arith, t.apart); within = omega (arith, t.within); one = t.one; other = t.other })
