-- The pass of the search: the last of the best among the first so many places, one place at a time.
use Rattle.std.specs.Prelude.{◌≡◌, Bool, ℕ, ◌+◌, ◌≤◌, ◌<◌, take, Option, Some, None}
use Rattle.std.proofs.Math.Path.{refl}
use Rattle.std.proofs.Common.{◌∙◌, add-one, zero-add, arith, take-suc, take_all}
use Rattle.std.proofs.Math.Bool.{true, false, cond}
use mathlib.Core.List.{List, [], ◌∷◌, ◌++◌, append-nil}
use Rattle.lists.specs.Filter.{filter_of, filter-append, filter-both, filter-all}
use Rattle.lists.specs.Records.{tabulate, tabulate-length, tabulate-at}
use Rattle.search.specs.Choices.{Choice, last_from, last_best, saturated, on_level}
use Rattle.search.specs.Search.{Search, All, OfLevel, Batches, compared, below, best_of, held_in, loses}

-- what is kept of the best so far and one more
abbrev keep : (Choice → Choice → Bool) → List Choice → Choice → List Choice
keep less bs c = cond (loses less bs c) bs (c ∷ [])

module _ (less : Choice → Choice → Bool) where
  from_snoc : (b : Choice) (cs : List Choice) (c : Choice) → last_from less b (cs ++ (c ∷ [])) ≡ cond (less c (last_from less b cs)) (last_from less b cs) c
  unfolding last_from
  from_snoc b [] c = refl
  from_snoc b (x ∷ cs) c = from_snoc (cond (less x b) b x) cs c

  last_snoc : (cs : List Choice) (c : Choice) → last_best less (cs ++ (c ∷ [])) ≡ keep less (last_best less cs) c
  unfolding last_best last_from
  last_snoc [] c = refl
  last_snoc (x ∷ cs) c = rw (from_snoc x cs c) (go (less c (last_from less x cs)))
    where
      go : (t : Bool) → cond t (last_from less x cs) c ∷ [] ≡ cond t (last_from less x cs ∷ []) (c ∷ [])
      go true = refl
      go false = refl

  best_snoc : (p : Choice → Bool) (cs : List Choice) (c : Choice) → last_best less (filter_of p (cs ++ (c ∷ []))) ≡ cond (p c) (keep less (last_best less (filter_of p cs)) c) (last_best less (filter_of p cs))
  unfolding filter_of
  best_snoc p cs c = rw (filter-append p cs (c ∷ [])) (go (p c))
    where
      go : (t : Bool) → last_best less (filter_of p cs ++ cond t (c ∷ []) []) ≡ cond t (keep less (last_best less (filter_of p cs)) c) (last_best less (filter_of p cs))
      go true = last_snoc (filter_of p cs) c
      go false = rw append-nil

pub best_of_lem : (s : Search) (cs : List Choice) → last_best (below s) (filter_of (compared s) cs) ≡ best_of s cs
best_of_lem All cs = rw (filter-all (compared All) cs (λ c. refl))
best_of_lem (OfLevel l) cs = refl
best_of_lem (Batches l) cs = rw (filter-both saturated (on_level l) cs)

module _ (s : Search) (read : ℕ → Choice) (n : ℕ) where
  -- the best of the first i is held
  abbrev pub Held : Option ℕ → ℕ → Type 0
  Held best i = held_in read best ≡ last_best (below s) (filter_of (compared s) (take i (tabulate read n 0)))

  pub held_start : Held None 0
  unfolding filter_of last_best
  held_start = refl

  take_more : (i : ℕ) → i < n → take (i + 1) (tabulate read n 0) ≡ take i (tabulate read n 0) ++ (read i ∷ [])
  take_more i h = rw (add-one, take-suc (tabulate read n 0) i (read 0) (omega (arith, tabulate-length read n 0)), tabulate-at read n 0 i (read 0) h, zero-add)

  -- place i is compared or not, and the best so far stays or not
  pub held_next : (best : Option ℕ) (i : ℕ) (t l : Bool) → i < n → compared s (read i) ≡ t → loses (below s) (held_in read best) (read i) ≡ l → Held best i → Held (cond t (cond l best (Some i)) best) (i + 1)
  held_next best i t l h a b e = rw (take_more i h, best_snoc (below s) (compared s) (take i (tabulate read n 0)) (read i), ← e, a, b) (go t l)
    where
      go : (t l : Bool) → held_in read (cond t (cond l best (Some i)) best) ≡ cond t (cond l (held_in read best) (read i ∷ [])) (held_in read best)
      go true true = refl
      go true false = refl
      go false l = refl

  pub held-end : (best : Option ℕ) (i : ℕ) → n ≤ i → Held best i → held_in read best ≡ best_of s (tabulate read n 0)
  held-end best i h e = e ∙ rw (take_all i (tabulate read n 0) (omega (arith, tabulate-length read n 0))) (best_of_lem s (tabulate read n 0))
