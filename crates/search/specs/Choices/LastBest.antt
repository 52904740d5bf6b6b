-- What the last of the best is: none before it is above it, and each after it is below it.
use Rattle.std.specs.Prelude.{◌≡◌, ◌⊎◌, Bool, true, false, cond}
use Rattle.std.proofs.Math.Path.{refl, subst}
use Rattle.std.proofs.Common.{sym, ◌∙◌, ap, inr, ⊎_elim, true≢false}
use Rattle.std.proofs.Math.Logic.{inl}
use mathlib.Core.List.Memᴰ
use mathlib.Core.List.{List, [], ◌∷◌, Memᴰ}
use Rattle.lists.specs.Filter.{filter_of, filter_in}
use Rattle.search.specs.Choices.{Choice, last_from, last_best}

abbrev pub Each : (Choice → Type 0) → List Choice → Type 0
Each P cs = (c : Choice) → Memᴰ c cs → P c

-- b is the first and each of the rest is below it, or it is such a one of the rest and not below the first
abbrev pub LastBest : (Choice → Choice → Bool) → List Choice → Choice → Type 0
LastBest less [] b = ⊥
LastBest less (c ∷ cs) b = ((b ≡ c) × Each (λ x. less x b ≡ true) cs) ⊎ (LastBest less cs b × (less b c ≡ false))

pub best_in : (less : Choice → Choice → Bool) (cs : List Choice) (b : Choice) → LastBest less cs b → Memᴰ b cs
best_in less [] b h = elim h [ ]
best_in less (c ∷ cs) b (inl h) = Memᴰ.head h.0
best_in less (c ∷ cs) b (inr h) = Memᴰ.tail (best_in less cs b h.0)

-- there is only one
pub only-best : (less : Choice → Choice → Bool) (cs : List Choice) (a b : Choice) → LastBest less cs a → LastBest less cs b → a ≡ b
only-best less [] a b h k = elim h [ ]
only-best less (c ∷ cs) a b (inl h) (inl k) = h.0 ∙ sym k.0
only-best less (c ∷ cs) a b (inl h) (inr k) = absurd (true≢false (sym (h.1 b (best_in less cs b k.0)) ∙ ap (less b) h.0 ∙ k.1))
only-best less (c ∷ cs) a b (inr h) (inl k) = absurd (true≢false (sym (k.1 a (best_in less cs a h.0)) ∙ ap (less a) k.0 ∙ h.1))
only-best less (c ∷ cs) a b (inr h) (inr k) = only-best less cs a b h.0 k.0

-- what is best of all is best of those that it is one of
pub filter-best : (less : Choice → Choice → Bool) (p : Choice → Bool) (cs : List Choice) (b : Choice) → p b ≡ true → LastBest less cs b → LastBest less (filter_of p cs) b
unfolding filter_of
filter-best less p [] b t h = elim h [ ]
filter-best less p (c ∷ cs) b t h = go (p c) refl h (filter-best less p cs b t)
  where
    go : (q : Bool) → p c ≡ q → LastBest less (c ∷ cs) b → (LastBest less cs b → LastBest less (filter_of p cs) b) → LastBest less (cond q (c ∷ filter_of p cs) (filter_of p cs)) b
    go true e (inl k) f = inl (k.0, λ x m. k.1 x (filter_in p cs x m).0)
    go true e (inr k) f = inr (f k.0, k.1)
    go false e (inl k) f = absurd (true≢false (sym t ∙ ap p k.0 ∙ e))
    go false e (inr k) f = f k.0

-- ---- `last_best` finds it

-- whatever the order, it finds one of them where there is one
found : (less : Choice → Choice → Bool) (b : Choice) (cs : List Choice) → Memᴰ (last_from less b cs) (b ∷ cs)
unfolding last_from
found less b [] = Memᴰ.head refl
found less b (c ∷ cs) = go (less c b) (found less b cs) (found less c cs)
  where
    go : (t : Bool) → Memᴰ (last_from less b cs) (b ∷ cs) → Memᴰ (last_from less c cs) (c ∷ cs) → Memᴰ (last_from less (cond t b c) cs) (b ∷ c ∷ cs)
    go true p q = ⊎_elim (λ e. Memᴰ.head e) (λ k. Memᴰ.tail (Memᴰ.tail k)) (Memᴰ.cases_cons p)
    go false p q = Memᴰ.tail q

pub best-some : (less : Choice → Choice → Bool) (cs : List Choice) (c : Choice) → Memᴰ c cs → (b : Choice) × (last_best less cs ≡ b ∷ []) × Memᴰ b cs
unfolding last_best
best-some less [] c m = absurd (Memᴰ.not-nil m)
best-some less (x ∷ xs) c m = (last_from less x xs, refl, found less x xs)

-- on choices of which P holds, `less` is the strict part of a total order in which several may be equal
pub record Orders (less : Choice → Choice → Bool) (P : Choice → Type 0) : Type 0 where
  pub asym : (x y : Choice) → P x → P y → less x y ≡ true → less y x ≡ false
  pub trans : (x y z : Choice) → P x → P y → P z → less y x ≡ false → less z y ≡ false → less z x ≡ false

module _ (less : Choice → Choice → Bool) (P : Choice → Type 0) (o : Orders less P) where
  from : (acc : Choice) (cs : List Choice) → P acc → Each P cs → LastBest less (acc ∷ cs) (last_from less acc cs)
  unfolding last_from
  from acc [] p ps = inl (refl, λ c m. absurd (Memᴰ.not-nil m))
  from acc (c ∷ cs) p ps = go (less c acc) refl (from acc cs p (λ x m. ps x (Memᴰ.tail m))) (from c cs here (λ x m. ps x (Memᴰ.tail m)))
    where
      here : P c
      here = ps c (Memᴰ.head refl)

      among : (b : Choice) → LastBest less cs b → P b
      among b l = ps b (Memᴰ.tail (best_in less cs b l))

      go : (t : Bool) → less c acc ≡ t → LastBest less (acc ∷ cs) (last_from less acc cs) → LastBest less (c ∷ cs) (last_from less c cs) → LastBest less (acc ∷ c ∷ cs) (last_from less (cond t acc c) cs)
      go true e (inl h) g = inl (h.0, λ x m. ⊎_elim (λ q. ap (λ (y : Choice). less y (last_from less acc cs)) q ∙ ap (less c) h.0 ∙ e) (h.1 x) (Memᴰ.cases_cons m))
      go true e (inr h) g = inr (inr (h.0, o.trans c acc _ here p (among _ h.0) (o.asym c acc here p e) h.1), h.1)
      go false e f (inl h) = inr (inl h, ap (λ (y : Choice). less y acc) h.0 ∙ e)
      go false e f (inr h) = inr (inr h, o.trans acc c _ p here (among _ h.0) e h.1)

  pub last-best : (cs : List Choice) → Each P cs → Each (LastBest less cs) (last_best less cs)
  unfolding last_best
  last-best [] ps b m = absurd (Memᴰ.not-nil m)
  last-best (c ∷ cs) ps b m = subst (LastBest less (c ∷ cs)) (sym (Memᴰ.eq_of_singleton m)) (from c cs (ps c (Memᴰ.head refl)) (λ x k. ps x (Memᴰ.tail k)))

  -- none of the whole list is above it
  pub none_above : (cs : List Choice) (b : Choice) → Each P cs → LastBest less cs b → Each (λ c. less b c ≡ false) cs
  none_above [] b ps h x m = elim h [ ]
  none_above (c ∷ cs) b ps (inl h) x m = go (less b x) refl (Memᴰ.cases_cons m)
    where
      best : P b
      best = ps b (Memᴰ.head h.0)

      go : (t : Bool) → less b x ≡ t → (x ≡ c) ⊎ Memᴰ x cs → less b x ≡ false
      go false e k = e
      go true e (inl q) = let s : x ≡ b = q ∙ sym h.0 in ap (less b) s ∙ ap (λ (y : Choice). less y b) (sym s) ∙ o.asym b x best (ps x m) e
      go true e (inr k) = o.asym x b (ps x m) best (h.1 x k)
  none_above (c ∷ cs) b ps (inr h) x m = ⊎_elim (λ q. ap (less b) q ∙ h.1) (none_above cs b (λ y k. ps y (Memᴰ.tail k)) h.0 x) (Memᴰ.cases_cons m)
