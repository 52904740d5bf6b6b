-- Laws of a list of checks, of any length.
use Rattle.std.specs.Prelude.{◌≡◌, refl, Bool, true, false, ◌&&◌, cond, ◌⊎◌, ℕ, T, ltb, eqb}
use Rattle.std.proofs.Common.{sym, ◌∙◌, true≢false, inl, inr, arith, ltb→lt, eq-eqb, ne_eqb}
use mathlib.Core.List.Memᴰ
use mathlib.Core.List.{List, [], ◌∷◌, ◌++◌, map, Memᴰ}
use Rattle.std.specs.Float.Ieee.Fits.{and_l, and_r}
use Rattle.lists.specs.Any.{any_of}
use Rattle.lists.specs.Tests.{neither, by-test}
use Rattle.refusals.specs.Refusals.{Check, first_fault, none}

-- step by step: a check that found nothing is passed, and the first that found its fault gives its number
pub pass : {b t : Bool} {x rest : ℕ} (n : ℕ) → t ≡ b → t ≡ false → x ≡ rest → x ≡ cond b n rest
pass n e f r = rw (← e, f) r

pub stop : {b t : Bool} (n rest : ℕ) → t ≡ b → t ≡ true → n ≡ cond b n rest
stop n rest e f = rw (← e, f)

abbrev pub Clear : List Check → Type 0
Clear [] = Unit
Clear (c ∷ cs) = (c.found ≡ false) × Clear cs

-- no number is 0
abbrev pub numbered : List Check → Bool
numbered [] = true
numbered (c ∷ cs) = ltb 0 c.number && numbered cs

-- a list that gives 0 found none of its faults
pub none_found : (cs : List Check) → T (numbered cs) → first_fault cs ≡ 0 → Clear cs
none_found [] t e = tt
none_found (c ∷ cs) t e = go c.found refl e (none_found cs (and_r (ltb 0 c.number) _ t))
  where
    go : (b : Bool) → c.found ≡ b → cond b c.number (first_fault cs) ≡ 0 → (first_fault cs ≡ 0 → Clear cs) → Clear (c ∷ cs)
    go true p k f = absurd (omega (arith, ltb→lt 0 c.number (and_l (ltb 0 c.number) (numbered cs) t)))
    go false p k f = (p, f k)

-- what the first check with a number found
abbrev pub check_for : ℕ → List Check → Bool
check_for n [] = false
check_for n (c ∷ cs) = cond (eqb c.number n) c.found (check_for n cs)

-- which is nothing where the list gives 0: by the number, wherever the check stands
pub clear_for : (n : ℕ) (cs : List Check) → T (numbered cs) → first_fault cs ≡ 0 → check_for n cs ≡ false
clear_for n cs t e = go cs (none_found cs t e)
  where
    go : (cs : List Check) → Clear cs → check_for n cs ≡ false
    go [] z = refl
    go (c ∷ cs) z = by-test (λ (b : Bool). b ≡ false) (eqb c.number n) c.found (check_for n cs) (λ h. z.0) (λ h. go cs z.1)

-- the numbers that a list can give
pub fault_in : (cs : List Check) → Memᴰ (first_fault cs) (none ∷ map (λ (c : Check). c.number) cs)
fault_in [] = Memᴰ.head refl
fault_in (c ∷ cs) = go c.found (Memᴰ.cases_cons (fault_in cs))
  where
    go : (b : Bool) → (first_fault cs ≡ none) ⊎ Memᴰ (first_fault cs) (map (λ (c : Check). c.number) cs) → Memᴰ (cond b c.number (first_fault cs)) (none ∷ c.number ∷ map (λ (c : Check). c.number) cs)
    go true m = Memᴰ.tail (Memᴰ.head refl)
    go false (inl e) = Memᴰ.head e
    go false (inr m) = Memᴰ.tail (Memᴰ.tail m)

-- of two lists the second counts where the first gives 0
pub fault_join : (cs ds : List Check) → T (numbered cs) → first_fault (cs ++ ds) ≡ cond (eqb (first_fault cs) 0) (first_fault ds) (first_fault cs)
fault_join [] ds t = refl
fault_join (c ∷ cs) ds t = go c.found (fault_join cs ds (and_r (ltb 0 c.number) _ t))
  where
    go : (f : Bool) → first_fault (cs ++ ds) ≡ cond (eqb (first_fault cs) 0) (first_fault ds) (first_fault cs)
        → cond f c.number (first_fault (cs ++ ds)) ≡ cond (eqb (cond f c.number (first_fault cs)) 0) (first_fault ds) (cond f c.number (first_fault cs))
    go true h = simp (ne_eqb c.number 0 (λ e. omega (arith, ltb→lt 0 c.number (and_l (ltb 0 c.number) (numbered cs) t))))
    go false h = h

-- step by step: the first list gave a fault, or nothing
module _ (cs ds : List Check) (t : T (numbered cs)) {x : ℕ} (e : x ≡ first_fault cs) where
  pub join_stop : ¬ (x ≡ none) → x ≡ first_fault (cs ++ ds)
  join_stop n = e ∙ sym (fault_join cs ds t ∙ rw (ne_eqb (first_fault cs) 0 (λ z. n (e ∙ z))))

  pub join_pass : x ≡ none → {y : ℕ} → y ≡ first_fault ds → y ≡ first_fault (cs ++ ds)
  join_pass z f = f ∙ sym (fault_join cs ds t ∙ rw (eq-eqb (first_fault cs) 0 (sym e ∙ z)))

-- a number whose checks all found nothing is not given
pub never_gives : (n : ℕ) (cs : List Check) → (n ≡ 0 → ⊥) → any_of (λ c. eqb c.number n && c.found) cs ≡ false → first_fault cs ≡ n → ⊥
unfolding any_of
never_gives n [] z a e = z (sym e)
never_gives n (c ∷ cs) z a e = go c.found refl e (never_gives n cs z parts.1)
  where
    parts : (eqb c.number n && c.found ≡ false) × (any_of (λ c. eqb c.number n && c.found) cs ≡ false)
    parts = neither _ _ a

    go : (f : Bool) → c.found ≡ f → cond f c.number (first_fault cs) ≡ n → (first_fault cs ≡ n → ⊥) → ⊥
    go true p k h = true≢false (simp (eq-eqb c.number n k, p) at parts.0)
    go false p k h = h k
