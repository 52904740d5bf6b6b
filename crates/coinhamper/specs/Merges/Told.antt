-- What the call below says of generation, in the boundary's words.
use Rattle.std.specs.Prelude.{◌≡◌, refl, ℕ, Bool, true, false, cond, List, length, eqb}
use Rattle.std.proofs.Common.{sym, ◌∙◌, eqb-true}
use Rattle.refusals.specs.Refusals.{none}
use Rattle.candidates.specs.Generate.{Generated, GenerateInput, generate_fault, generated_of, made_of, number_words, Answered}
use Rattle.coinhamper.specs.Merges.{Generation}

-- a generation's number and counts, which are its answer's where it is accepted
abbrev Says : GenerateInput → ℕ → Generated → Type 0
Says q fault g = (g.refusal ≡ fault) × ((old : ℕ) → cond (eqb g.refusal none) g.candidates old ≡ cond (eqb fault none) (length (made_of q)) old) × ((old : ℕ) → cond (eqb g.refusal none) g.numbers old ≡ cond (eqb fault none) (length (number_words q)) old)

says : (q : GenerateInput) (a b : ℕ) → Says q (generate_fault q a b) (generated_of q a b)
unfolding generated_of
says q a b = by (generate_fault q a b) (eqb (generate_fault q a b) none) refl
  where
    by : (n : ℕ) (t : Bool) → eqb n none ≡ t → Says q n (cond t (record { refusal = none; candidates = length (made_of q); numbers = length (number_words q) }) (record { refusal = n; candidates = 0; numbers = 0 }))
    by n true e = (sym (eqb-true n none e), (λ old. rw e), (λ old. rw e))
    by n false e = (refl, (λ old. rw e), (λ old. rw e))

pub generation : (q : GenerateInput) (c₀ c₁ n₀ n₁ : List ℕ) (k₀ k₁ m₀ m₁ r s : ℕ) (g : Generated) → Answered q c₀ c₁ n₀ n₁ g
    → (r ≡ g.refusal) × (k₁ ≡ cond (eqb g.refusal none) g.candidates k₀)
    → (s ≡ g.refusal) × (m₁ ≡ cond (eqb g.refusal none) g.numbers m₀)
    → Generation q c₀ c₁ n₀ n₁ k₀ k₁ m₀ m₁ s
generation q c₀ c₁ n₀ n₁ k₀ k₁ m₀ m₁ r s g a p t =
    let f : Says q (generate_fault q (length c₀) (length n₀)) g = rw a.result (says q (length c₀) (length n₀)) in
    let e : s ≡ generate_fault q (length c₀) (length n₀) = t.0 ∙ f.0 in
    record {
      refusal = e;
      candidates = rw e a.candidates;
      numbers = rw e a.numbers;
      candidate_count = rw e (p.1 ∙ f.1 k₀);
      number_count = rw e (t.1 ∙ f.2 m₀);
    }
