-- No n in a row, as a streak that goes along the list.
use Prim.Native.Nat.{ℕ, suc, ◌+◌, ◌≤◌, ◌<◌}
use native.Mathlib.Omega.{arith}
use mathlib.Core.Path.{◌≡◌, refl, sym, ap, ◌∙◌}
use mathlib.Core.Bool.{Bool, true, false, cond}
use mathlib.Core.List.{List, [], ◌∷◌, ◌++◌, append_assoc, append-nil}
use lib.Dec.{T, leb, leb→le, nleb→lt, not_T}
use lib.ListN.{length, length-append}
use lib.Seq.{append_snoc}
use Rattle.modes.specs.Mode.{next}
use Rattle.governor_promises.specs.Reading.{Seen, Each, InARow}

pub by-test : {A : Type 0} (P : A → Type 0) (b : Bool) (x y : A) → (T b → P x) → (¬ T b → P y) → P (cond b x y)
by-test P true x y f g = f tt
by-test P false x y f g = g (λ h. h)

pub by_order : {A : Type 0} (P : A → Type 0) (a b : ℕ) (x y : A) → (a ≤ b → P x) → (b < a → P y) → P (cond (leb a b) x y)
by_order P a b x y f g = by-test P (leb a b) x y (λ h. f (leb→le a b h)) (λ h. g (nleb→lt a b (not_T (leb a b) h)))

pub each_append : (P : Seen → Type 0) (r t : List Seen) → Each P r → Each P t → Each P (r ++ t)
each_append P [] t h k = k
each_append P (x ∷ r) t h k = (h.0, each_append P r t h.1 k)

module _ (P : Seen → Bool) where
  abbrev pub Is : Seen → Type 0
  Is x = T (P x)

  -- the streak after a list
  unfoldable pub streak : ℕ → List Seen → ℕ
  streak k [] = k
  streak k (x ∷ l) = streak (next (P x) k) l

  -- the streak stays below w, all along a list
  abbrev pub Held : ℕ → ℕ → List Seen → Type 0
  Held w k [] = Unit {0}
  Held w k (x ∷ l) = (next (P x) k < w) × Held w (next (P x) k) l

  streak-append : (k : ℕ) (l t : List Seen) → streak k (l ++ t) ≡ streak (streak k l) t
  unfolding streak
  streak-append k [] t = refl
  streak-append k (x ∷ l) t = streak-append (next (P x) k) l t

  pub streak-next : (k : ℕ) (l : List Seen) (x : Seen) → streak k (l ++ x ∷ []) ≡ next (P x) (streak k l)
  unfolding streak
  streak-next k l x = streak-append k l (x ∷ [])

  held-append : (w k : ℕ) (l t : List Seen) → Held w k l → Held w (streak k l) t → Held w k (l ++ t)
  unfolding streak
  held-append w k [] t h g = g
  held-append w k (x ∷ l) t h g = (h.0, held-append w (next (P x) k) l t h.1 g)

  held-left : (w k : ℕ) (l t : List Seen) → Held w k (l ++ t) → Held w k l
  held-left w k [] t h = tt
  held-left w k (x ∷ l) t h = (h.0, held-left w (next (P x) k) l t h.1)

  held-streak : (w k : ℕ) (l : List Seen) → k < w → Held w k l → streak k l < w
  unfolding streak
  held-streak w k [] lt h = lt
  held-streak w k (x ∷ l) lt h = held-streak w (next (P x) k) l h.0 h.1

  pub next_is : (k : ℕ) (x : Seen) → Is x → next (P x) k ≡ suc k
  next_is k x = by-test (λ (n : ℕ). Is x → n ≡ suc k) (P x) (k + 1) 0 (λ _ _. omega arith) (λ no is. absurd (no is))

  pub next_not : (k : ℕ) (x : Seen) → ¬ Is x → next (P x) k ≡ 0
  next_not k x = by-test (λ (n : ℕ). ¬ Is x → n ≡ 0) (P x) (k + 1) 0 (λ is no. absurd (no is)) (λ _ _. refl)

  streak-each : (k : ℕ) (r : List Seen) → Each Is r → streak k r ≡ k + length r
  unfolding streak
  streak-each k [] h = omega arith
  streak-each k (x ∷ r) h = rw (next_is k x h.0) (omega (arith, streak-each (suc k) r h.1))

  pub held_no_row : (w : ℕ) (l : List Seen) → 0 < w → Held w 0 l → ¬ InARow w Is l
  held_no_row w l pos h i =
      let all : Held w 0 (i.before ++ i.row ++ i.after) = rw i.split at h in
      let part : Held w 0 (i.before ++ i.row) = held-left w 0 (i.before ++ i.row) i.after all in
      omega (arith, held-streak w 0 (i.before ++ i.row) pos part, streak-append 0 i.before i.row, streak-each (streak 0 i.before) i.row i.each, i.long)

  -- the last k of a list are P
  record Last (k : ℕ) (l : List Seen) : Type 0 where
    front : List Seen
    row : List Seen
    split : l ≡ front ++ row
    long : length row ≡ k
    each : Each Is row

  last-next : (k : ℕ) (p : List Seen) (x : Seen) → Last k p → Last (next (P x) k) (p ++ x ∷ [])
  last-next k p x t =
      by-test (λ (n : ℕ). Last n (p ++ x ∷ [])) (P x) (k + 1) 0
      (λ is. record {
        front = t.front;
        row = t.row ++ x ∷ [];
        split = rw t.split (simp append_assoc);
        long = simp length-append (omega (arith, t.long));
        each = each_append Is t.row (x ∷ []) t.each (is, tt);
      })
      (λ _. record { front = p ++ x ∷ []; row = []; split = sym (append-nil (p ++ x ∷ [])); long = refl; each = tt })

  pub next_le : (k : ℕ) (x : Seen) → next (P x) k ≤ suc k
  next_le k x = by-test (λ (n : ℕ). n ≤ suc k) (P x) (k + 1) 0 (λ _. omega arith) (λ _. omega arith)

  held_of : (w k : ℕ) (p l : List Seen) → k < w → Last k p → ¬ InARow w Is (p ++ l) → Held w k l
  held_of w k p [] lt t none = tt
  held_of w k p (x ∷ l) lt t none =
      let t' = last-next k p x t in
      let same : p ++ x ∷ [] ++ l ≡ p ++ x ∷ l = append_snoc p x l in
      let below : next (P x) k < w =
      by_order (λ (b : Bool). next (P x) k < w) w (next (P x) k) true false
      (λ ge. absurd (none (record {
        before = t'.front;
        row = t'.row;
        after = l;
        split = sym same ∙ ap (λ (q : List Seen). q ++ l) t'.split;
        long = omega (arith, t'.long, next_le k x);
        each = t'.each;
      })))
      (λ less. less)
      in
      (below, held_of w (next (P x) k) (p ++ x ∷ []) l below t' (rw (← same) at none))

  pub no_row_held : (w : ℕ) (l : List Seen) → 0 < w → ¬ InARow w Is l → Held w 0 l
  no_row_held w l pos none = held_of w 0 [] l pos (record { front = []; row = []; split = refl; long = refl; each = tt }) none

  pub no_row_next : (w : ℕ) (l : List Seen) (x : Seen) → 0 < w → ¬ InARow w Is l → next (P x) (streak 0 l) < w → ¬ InARow w Is (l ++ x ∷ [])
  no_row_next w l x pos none lt = held_no_row w (l ++ x ∷ []) pos (held-append w 0 l (x ∷ []) (no_row_held w l pos none) (lt, tt))
