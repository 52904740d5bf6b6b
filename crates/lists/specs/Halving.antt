-- The search by halves for the first of a sorted list that is not less than what is sought: of a window's two halves the one is kept that may hold it.
use Rattle.std.specs.Prelude.{◌≡◌, refl, ◌⊎◌, Bool, true, false, List, ℕ, ◌+◌, ◌-◌, ◌/◌, ◌≤◌, ◌<◌, ltb, length, get_or}
use Rattle.std.proofs.Common.{inl, inr, arith, ltb-true, ltb-false}

-- a test that, where it holds, holds of all before
abbrev pub Falling : (ℕ → Bool) → List ℕ → Type 0
Falling below l = (i j : ℕ) → i < j → j < length l → below (get_or l j 0) ≡ true → below (get_or l i 0) ≡ true

-- the window is the `left` places up to `last`: all before it are below, and `last` is the list's last place or is not below
pub record Halving (below : ℕ → Bool) (l : List ℕ) (last left : ℕ) : Type 0 where
  pub within : last < length l
  pub inside : left ≤ last + 1
  pub some : 0 < left
  pub before : (k : ℕ) → k + left ≤ last → below (get_or l k 0) ≡ true
  pub ends : (last + 1 ≡ length l) ⊎ (below (get_or l last 0) ≡ false)

module _ {below : ℕ → Bool} {l : List ℕ} where
  pub halving_start : {n : ℕ} → n ≡ length l → 0 < n → Halving below l (n - 1) n
  halving_start e h =
      record { within = omega arith; inside = omega arith; some = h; before = λ k j. absurd (omega arith); ends = inl (omega arith) }

  module _ {last left half there : ℕ} (s : Halving below l last left) (more : 1 < left) (e : half ≡ left / 2) (f : there ≡ last - half) where
    pub halving_there : (half ≤ last) × (there < length l)
    halving_there = (omega (arith, s.inside), omega (arith, s.inside, s.within))

    -- not below: the first such one is here or before
    pub halving_down : below (get_or l there 0) ≡ false → Halving below l there (left - half)
    halving_down t =
        record { within = halving_there.1; inside = omega (arith, s.inside); some = omega arith; before = λ k j. s.before k (omega (arith, s.inside)); ends = inr t }

    -- below, as are all before: it comes after
    pub halving_up : Falling below l → below (get_or l there 0) ≡ true → Halving below l last (left - half)
    halving_up fall t =
        record { within = s.within; inside = omega (arith, s.inside); some = omega arith; before = first; ends = s.ends }
      where
        first : (k : ℕ) → k + (left - half) ≤ last → below (get_or l k 0) ≡ true
        first k j = go (ltb k there) refl
          where
            go : (b : Bool) → ltb k there ≡ b → below (get_or l k 0) ≡ true
            go true h = fall k there (ltb-true k there h) halving_there.1 t
            go false h =
                let same : k ≡ there = omega (arith, ltb-false k there h, s.inside) in
                rw same t

  -- one place is left
  pub halving_end : {last left : ℕ} → Halving below l last left → left ≤ 1 → (k : ℕ) → k < last → below (get_or l k 0) ≡ true
  halving_end s h k j = s.before k (omega (arith, s.some))
