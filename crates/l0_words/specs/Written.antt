-- What stands in two lent buffers once candidates are written to them, and where the next word goes.
use Rattle.std.specs.Prelude.{◌≡◌, refl, List, [], ◌∷◌, ℕ, ◌+◌}
use Rattle.std.proofs.Common.{sym, ◌∙◌, append-nil, arith}
use Rattle.std.proofs.Math.ListN.{length}
use Rattle.lists.specs.Writes.{Filled}
use Rattle.l0_words.specs.declared.Ends.{Ends}
use Rattle.l0_words.specs.Words.{Offer, offer, words_from, numbers_in}

abbrev pub start : Ends
start = record { words = 0; numbers = 0 }

-- the candidates were written from `at` on
pub record Written (at : Ends) (cs : List Offer) (c₀ c₁ n₀ n₁ : List ℕ) (end : Ends) : Type 0 where
  pub words : Filled c₀ at.words (words_from at.numbers cs) c₁ end.words
  pub numbers : Filled n₀ at.numbers (numbers_in cs) n₁ end.numbers

-- the six words of a candidate with so many numbers were written
pub record Headed (at : Ends) (kind level len count : ℕ) (c₀ c₁ : List ℕ) (end : Ends) : Type 0 where
  pub words : Filled c₀ at.words (kind ∷ level ∷ len ∷ (level + 1) ∷ at.numbers ∷ count ∷ []) c₁ end.words
  pub numbers : end.numbers ≡ at.numbers + count

-- one outcome only
pub written_decides : (at : Ends) (cs : List Offer) (c₀ c₁ c₂ n₀ n₁ n₂ : List ℕ) (one other : Ends) → Written at cs c₀ c₁ n₀ n₁ one → Written at cs c₀ c₂ n₀ n₂ other → (one ≡ other) × (c₁ ≡ c₂) × (n₁ ≡ n₂)
written_decides at cs c₀ c₁ c₂ n₀ n₁ n₂ one other p q =
    (λ i. record { words = (p.words.ends ∙ sym q.words.ends) i; numbers = (p.numbers.ends ∙ sym q.numbers.ends) i }, p.words.stands ∙ sym q.words.stands, p.numbers.stands ∙ sym q.numbers.stands)

pub written_none : (at : Ends) (c n : List ℕ) → Written at [] c c n n at
unfolding words_from numbers_in
written_none at c n = record { words = record { ends = omega arith; stands = refl }; numbers = record { ends = omega arith; stands = refl } }

module _ (at : Ends) (kind level len : ℕ) (ns n₀ n₁ : List ℕ) (count : ℕ) (f : Filled n₀ at.numbers ns n₁ (at.numbers + count)) where
  pub written_one : (c₀ c₁ : List ℕ) (end : Ends) → Headed at kind level len count c₀ c₁ end → Written at (offer kind level len ns ∷ []) c₀ c₁ n₀ n₁ end
  unfolding words_from numbers_in
  written_one c₀ c₁ end h =
      let e : count ≡ length ns = omega (arith, f.ends) in
      record { words = rw e at h.words; numbers = rw (append-nil ns, h.numbers) f }
