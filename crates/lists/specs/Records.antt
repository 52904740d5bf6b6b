-- Words as records of any width: how many there are, and which words each is; and a list by its places.
use Rattle.std.specs.Prelude.{◌≡◌, length, get_or, drop}
use Rattle.std.proofs.Math.Path.{refl, ap}
use Rattle.std.proofs.Common.{◌∙◌, add-suc, suc-add, add-one, drop-cons}
use Rattle.std.proofs.Math.Logic.{⊎_elim}
use mathlib.Core.List.Memᴰ
use mathlib.Core.List.{List, [], ◌∷◌, Memᴰ}
use Prim.Native.Nat.{ℕ, zero, suc, ◌+◌, ◌*◌, ◌/◌, ◌≤◌, ◌<◌}
use Rattle.std.proofs.Math.Nat.{add-zero, zero-add}
use native.Mathlib.Omega.{arith}
use Rattle.std.proofs.Math.ListN.{get_or-eq_default}

module _ {X : Type 0} (f : ℕ → X) where
  -- f at n numbers from i on
  unfoldable pub tabulate : ℕ → ℕ → List X
  tabulate zero i = []
  tabulate (suc n) i = f i ∷ tabulate n (suc i)

  pub tabulate-length : (n i : ℕ) → length (tabulate n i) ≡ n
  unfolding tabulate
  tabulate-length zero i = refl
  tabulate-length (suc n) i = ap suc (tabulate-length n (suc i))

  pub tabulate-at : (n i k : ℕ) (d : X) → k < n → get_or (tabulate n i) k d ≡ f (i + k)
  unfolding tabulate
  tabulate-at zero i k d h = absurd (omega arith)
  tabulate-at (suc n) i zero d h = rw add-zero
  tabulate-at (suc n) i (suc k) d h = tabulate-at n (suc i) k d (omega arith) ∙ rw (suc-add, add-suc)

  pub tabulate_in : (n i : ℕ) (x : X) → Memᴰ x (tabulate n i) → (k : ℕ) × (i ≤ k) × (k < i + n) × (x ≡ f k)
  unfolding tabulate
  tabulate_in zero i x m = absurd (Memᴰ.not-nil m)
  tabulate_in (suc n) i x m =
      ⊎_elim (λ e. (i, omega arith, omega arith, e)) (λ h. let r = tabulate_in n (suc i) x h in (r.0, omega (arith, r.1), omega (arith, r.2), r.3)) (Memᴰ.cases_cons m)

-- `from` says what stands at a word; a record is w words, and what is left over is none
unfoldable pub records_of : {X : Type 0} → ℕ → (List ℕ → ℕ → X) → List ℕ → List X
records_of w from ws = tabulate (λ i. from ws (i * w)) (length ws / w) 0

module _ {X : Type 0} (w : ℕ) (from : List ℕ → ℕ → X) (ws : List ℕ) where
  pub records_count : length (records_of w from ws) ≡ length ws / w
  unfolding records_of
  records_count = tabulate-length _ (length ws / w) 0

  pub records_at : (i : ℕ) (d : X) → i < length ws / w → get_or (records_of w from ws) i d ≡ from ws (i * w)
  unfolding records_of
  records_at i d h = tabulate-at (λ i. from ws (i * w)) (length ws / w) 0 i d h ∙ rw zero-add

  pub records_past : (i : ℕ) (d : X) → length ws / w ≤ i → get_or (records_of w from ws) i d ≡ d
  records_past i d h = get_or-eq_default (records_of w from ws) d (rw records_count h)

-- the places of n things: 0 up to n - 1
abbrev pub places_up_to : ℕ → List ℕ
places_up_to n = tabulate (λ i. i) n 0

pub places-at : (n i : ℕ) → i < n → get_or (places_up_to n) i 0 ≡ i
places-at n i h = tabulate-at (λ i. i) n 0 i 0 h ∙ rw zero-add

pub places-from : (n i : ℕ) → i < n → drop i (places_up_to n) ≡ i ∷ drop (i + 1) (places_up_to n)
places-from n i h = drop-cons (places_up_to n) i 0 (rw tabulate-length h) ∙ rw (places-at n i h, add-one)
