-- 01 (c): generation's two counts are the lengths of what it wrote. And what stands at the front of the buffers after generation and estimation are the words that the next call is to be handed.
use Prim.Native.Nat.{ℕ, ◌*◌}
use mathlib.Core.Path.{◌≡◌, refl, sym, ◌∙◌, subst}
use mathlib.Core.List.{List, ◌++◌}
use lib.ListN.{length, take, drop}
use lib.Seq.{take_at}
use borrow.Author.Tests.{eq-eqb}
use Rattle.refusals.specs.Refusals.{none}
use Rattle.candidate_words.specs.Bounds.{words-length}
use Rattle.candidates.specs.Accepted.{generated-refusal, generated-count}
use Rattle.candidates.specs.Generate.{Generated, GenerateInput, Answered, made_of, candidate_words, number_words, generate_fault, front_of}
use Rattle.estimate_faults.specs.Faults.{EstimateInput, estimate_fault}
use Rattle.estimates.specs.Estimate.Call.{estimate_words, estimated_of, estimates_out}
use Rattle.estimates.specs.Estimate.Accepted.{estimated-refusal, words_long}

-- a buffer's first n words were written, and no other
pub record Wrote (old new : List ℕ) (n : ℕ) : Type 0 where
  pub front : List ℕ
  pub long : length front ≡ n
  pub stands : new ≡ front ++ drop n old

front_wrote : (fault : ℕ) (words old new : List ℕ) → fault ≡ none → new ≡ front_of fault words old → Wrote old new (length words)
front_wrote fault words old new z e = record { front = words; long = refl; stands = e ∙ rw (eq-eqb fault none z) }

front-taken : (fault : ℕ) (words old new : List ℕ) (n : ℕ) → fault ≡ none → length words ≡ n → new ≡ front_of fault words old → take n new ≡ words
front-taken fault words old new n z l e = rw (e, eq-eqb fault none z) (take_at words (drop (length words) old) n l)

module _ (q : GenerateInput) (c₀ c₁ n₀ n₁ : List ℕ) (r : Generated) (a : Answered q c₀ c₁ n₀ n₁ r) (h : r.refusal ≡ none) where
  clear : generate_fault q (length c₀) (length n₀) ≡ none
  clear = sym (generated-refusal q (length c₀) (length n₀)) ∙ rw (← a.result) h

  told : r ≡ record { refusal = none; candidates = length (made_of q); numbers = length (number_words q) }
  told = a.result ∙ generated-count q (length c₀) (length n₀) clear

  pub generation-counts : Wrote c₀ c₁ (6 * r.candidates) × Wrote n₀ n₁ r.numbers
  generation-counts =
      (rw told (subst (Wrote c₀ c₁) (words-length 0 (made_of q)) (front_wrote _ (candidate_words q) c₀ c₁ clear a.candidates)), rw told (front_wrote _ (number_words q) n₀ n₁ clear a.numbers))

  -- so many words of each buffer are the words to hand on
  pub generation-fronts : (take (6 * r.candidates) c₁ ≡ candidate_words q) × (take r.numbers n₁ ≡ number_words q)
  generation-fronts =
      (rw told (front-taken _ (candidate_words q) c₀ c₁ (6 * length (made_of q)) clear (words-length 0 (made_of q)) a.candidates), rw told (front-taken _ (number_words q) n₀ n₁ (length (number_words q)) clear refl a.numbers))

pub estimation-front : (q : EstimateInput) (old : List ℕ) → (estimated_of q (length old)).refusal ≡ none → take (9 * (estimated_of q (length old)).estimates) (estimates_out q old) ≡ estimate_words q
unfolding estimated_of
estimation-front q old h =
    rw (eq-eqb (estimate_fault q (length old)) none (sym (estimated-refusal q (length old)) ∙ h)) (take_at (estimate_words q) (drop (length (estimate_words q)) old) _ (words_long q))
