-- Candidates on their way into the two buffers: that they fit, what stands in both after some of them, and what is left.
use Rattle.std.specs.Prelude.{◌≡◌, refl, List, [], ◌∷◌, ◌++◌, ℕ, ◌+◌, ◌≤◌, ◌^◌, length}
use Rattle.std.proofs.Common.{ap, append_assoc, append-nil, add_assoc, add-zero, arith, length-append}
use Rattle.lists.specs.Writes.{Filled, Filling, fill_start, fill-part, fill_end, filled-append}
use Rattle.l0_words.specs.declared.Ends.{Ends}
use Rattle.l0_words.specs.Words.{Offer, offer, words_from, numbers_in}
use Rattle.l0_words.specs.Written.{Written}

-- the candidates fit from `at` on: no count comes near its type's end
pub record Fit (at : Ends) (cs : List Offer) : Type 0 where
  pub words : at.words + length (words_from at.numbers cs) ≤ 2 ^ 32
  pub numbers : at.numbers + length (numbers_in cs) ≤ 2 ^ 32

-- they are being written, `rest` is left
pub record Writing (at : Ends) (whole : List Offer) (c₀ n₀ : List ℕ) (end : Ends) (rest : List Offer) (c n : List ℕ) : Type 0 where
  pub words : Filling c₀ at.words (words_from at.numbers whole) c end.words (words_from end.numbers rest)
  pub numbers : Filling n₀ at.numbers (numbers_in whole) n end.numbers (numbers_in rest)

pub words_append : (i : ℕ) (a b : List Offer) → words_from i (a ++ b) ≡ words_from i a ++ words_from (i + length (numbers_in a)) b
unfolding words_from numbers_in
words_append i [] b = rw add-zero
words_append i (c ∷ a) b =
    rw (words_append (i + length c.numbers) a b, length-append c.numbers (numbers_in a), add_assoc)

pub numbers-append : (a b : List Offer) → numbers_in (a ++ b) ≡ numbers_in a ++ numbers_in b
unfolding numbers_in
numbers-append [] b = refl
numbers-append (c ∷ a) b = rw (numbers-append a b, append_assoc)

module _ (at : Ends) (kind level len : ℕ) (ns n₀ n₁ : List ℕ) (count : ℕ) (f : Filled n₀ at.numbers ns n₁ (at.numbers + count)) where
  pub fit-one : Fit at (offer kind level len ns ∷ []) → (at.words + 6 ≤ 2 ^ 32) × (at.numbers + count ≤ 2 ^ 32)
  unfolding words_from numbers_in
  fit-one g = (g.words, omega (arith, f.ends, rw (append-nil ns) at g.numbers))

pub writing_start : (at : Ends) (whole : List Offer) (c n : List ℕ) → Writing at whole c n at whole c n
writing_start at whole c n = record { words = fill_start _ _ _; numbers = fill_start _ _ _ }

pub writing_part : (at : Ends) (whole : List Offer) (c₀ n₀ : List ℕ) (m : Ends) (a rest : List Offer) (c c₁ n n₁ : List ℕ) (end : Ends) → Writing at whole c₀ n₀ m (a ++ rest) c n → Written m a c c₁ n n₁ end
    → Writing at whole c₀ n₀ end rest c₁ n₁
writing_part at whole c₀ n₀ m a rest c c₁ n n₁ end w p =
    record {
      words = fill-part _ _ _ _ _ _ _ _ _ (rw (words_append m.numbers a rest, ← p.numbers.ends) at w.words) p.words;
      numbers = fill-part _ _ _ _ _ _ _ _ _ (rw (numbers-append a rest) at w.numbers) p.numbers;
    }

pub writing_end : (at : Ends) (whole : List Offer) (c₀ n₀ : List ℕ) (end : Ends) (c n : List ℕ) → Writing at whole c₀ n₀ end [] c n → Written at whole c₀ c n₀ n end
unfolding words_from numbers_in
writing_end at whole c₀ n₀ end c n w = record { words = fill_end _ _ _ _ _ w.words; numbers = fill_end _ _ _ _ _ w.numbers }

module _ (at : Ends) (a b : List Offer) where
  pub written-append : (c₀ c₁ c₂ n₀ n₁ n₂ : List ℕ) (m end : Ends) → Written at a c₀ c₁ n₀ n₁ m → Written m b c₁ c₂ n₁ n₂ end → Written at (a ++ b) c₀ c₂ n₀ n₂ end
  written-append c₀ c₁ c₂ n₀ n₁ n₂ m end f g =
      record {
        words = rw (words_append at.numbers a b, ← f.numbers.ends) (filled-append _ _ _ _ _ _ _ _ f.words g.words);
        numbers = rw (numbers-append a b) (filled-append _ _ _ _ _ _ _ _ f.numbers g.numbers);
      }

  -- where both fit, the first does, and the second from its end on
  pub fit-left : Fit at (a ++ b) → Fit at a
  fit-left f =
      record {
        words = omega (arith, f.words, ap length (words_append at.numbers a b), length-append (words_from at.numbers a) (words_from (at.numbers + length (numbers_in a)) b));
        numbers = omega (arith, f.numbers, ap length (numbers-append a b), length-append (numbers_in a) (numbers_in b));
      }

  pub fit-right : (c₀ c₁ n₀ n₁ : List ℕ) (m : Ends) → Fit at (a ++ b) → Written at a c₀ c₁ n₀ n₁ m → Fit m b
  fit-right c₀ c₁ n₀ n₁ m f w =
      record {
        words = rw w.numbers.ends (omega (arith, f.words, w.words.ends, ap length (words_append at.numbers a b), length-append (words_from at.numbers a) (words_from (at.numbers + length (numbers_in a)) b)));
        numbers = omega (arith, f.numbers, w.numbers.ends, ap length (numbers-append a b), length-append (numbers_in a) (numbers_in b));
      }

pub fit-rest : (at : Ends) (whole : List Offer) (c₀ n₀ : List ℕ) (m : Ends) (rest : List Offer) (c n : List ℕ) → Fit at whole → Writing at whole c₀ n₀ m rest c n → Fit m rest
fit-rest at whole c₀ n₀ m rest c n f w =
    record { words = omega (arith, f.words, w.words.count); numbers = omega (arith, f.numbers, w.numbers.count) }
