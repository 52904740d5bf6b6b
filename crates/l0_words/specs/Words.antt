-- A candidate, and candidates as words: six to each, and all their numbers in one list. Definitions only.
use Rattle.std.specs.Prelude.{ℕ, ◌+◌, List, [], ◌∷◌, ◌++◌, length}

-- a candidate with the numbers of its tables
pub record Offer : Type 0 where
  pub kind : ℕ
  pub level : ℕ
  pub batch_len : ℕ
  pub output : ℕ
  pub numbers : List ℕ

abbrev pub offer : ℕ → ℕ → ℕ → List ℕ → Offer
offer kind level len ns = record { kind = kind; level = level; batch_len = len; output = level + 1; numbers = ns }

-- a candidate's six words, its numbers standing from a place on in the number list
abbrev pub six_words : ℕ → Offer → List ℕ
six_words start c = c.kind ∷ c.level ∷ c.batch_len ∷ c.output ∷ start ∷ length c.numbers ∷ []

unfoldable pub words_from : ℕ → List Offer → List ℕ
words_from start [] = []
words_from start (c ∷ cs) = six_words start c ++ words_from (start + length c.numbers) cs

unfoldable pub numbers_in : List Offer → List ℕ
numbers_in [] = []
numbers_in (c ∷ cs) = c.numbers ++ numbers_in cs
