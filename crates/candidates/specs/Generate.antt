-- The call `generate_candidates`: its refusals in 01's order, its answer, and every word of the two lent buffers. Definitions only.
use Rattle.std.specs.Prelude.{ℕ, ◌≡◌, Bool, cond, ◌||◌, List, [], ◌∷◌, ◌++◌, length, drop, ltb, eqb}
use Rattle.refusals.specs.Refusals.{Check, ◌gives◌, first_fault, none, too_many, bad_record, bad_level, no_room, duplicate_number}
use Rattle.records.specs.Tables.{tables_of, entries_of}
use Rattle.number_order.specs.Numbers.{repeats}
use Rattle.faults.specs.Tables.{too_many_tables, broken_tables, broken_keys, too_many_entries, broken_entries, levels_out}
use Rattle.l0_words.specs.Words.{Offer, words_from, numbers_in}
use Rattle.candidate_words.specs.Candidates.{offers_of}

-- what is lent to the call: table words, key bytes, trigger, over-budget words
pub record GenerateInput : Type 0 where
  pub tables : List ℕ
  pub keys : List ℕ
  pub trigger : ℕ
  pub over : List ℕ

abbrev pub generate_input : List ℕ → List ℕ → ℕ → List ℕ → GenerateInput
generate_input tables keys trigger over = record { tables = tables; keys = keys; trigger = trigger; over = over }

abbrev pub made_of : GenerateInput → List Offer
made_of q = offers_of q.keys (tables_of q.tables) q.trigger (entries_of q.over)

abbrev pub candidate_words : GenerateInput → List ℕ
candidate_words q = words_from 0 (made_of q)

abbrev pub number_words : GenerateInput → List ℕ
number_words q = numbers_in (made_of q)

-- 4, 5: whole records, few and sound
abbrev pub words_checks : List ℕ → List ℕ → List ℕ → List Check
words_checks tables keys over =
    (too_many_tables tables || too_many_entries over) gives too_many
    ∷ (broken_tables tables || (broken_keys (length keys) tables || broken_entries over)) gives bad_record
    ∷ []

-- 11, 6
abbrev pub later_checks : List ℕ → List ℕ → List Check
later_checks tables over =
    repeats (tables_of tables) gives duplicate_number
    ∷ levels_out over gives bad_level
    ∷ []

-- what is wrong with the lent words
unfoldable pub input_checks : List ℕ → List ℕ → List ℕ → List Check
input_checks tables keys over = words_checks tables keys over ++ later_checks tables over

abbrev pub input_fault : List ℕ → List ℕ → List ℕ → ℕ
input_fault tables keys over = first_fault (input_checks tables keys over)

-- 9: rooms are the lengths of the two output buffers
abbrev pub short_of : GenerateInput → ℕ → ℕ → Bool
short_of q room₁ room₂ = ltb room₁ (length (candidate_words q)) || ltb room₂ (length (number_words q))

unfoldable pub generate_fault : GenerateInput → ℕ → ℕ → ℕ
generate_fault q room₁ room₂ =
    first_fault (input_checks q.tables q.keys q.over ++ (short_of q room₁ room₂ gives no_room ∷ []))

-- an answer: its refusal, and the two counts
pub record Generated : Type 0 where
  pub refusal : ℕ
  pub candidates : ℕ
  pub numbers : ℕ

-- the refusal with the two counts, 0 and 0 when refused
unfoldable pub generated_of : GenerateInput → ℕ → ℕ → Generated
generated_of q room₁ room₂ =
    cond (eqb (generate_fault q room₁ room₂) none) (record { refusal = none; candidates = length (made_of q); numbers = length (number_words q) })
    (record { refusal = generate_fault q room₁ room₂; candidates = 0; numbers = 0 })

-- a buffer after the call: the answer at its front and no word after it touched, or as it was
abbrev pub front_of : ℕ → List ℕ → List ℕ → List ℕ
front_of fault words old = cond (eqb fault none) (words ++ drop (length words) old) old

-- the whole answer: the result and both buffers, from c₀ and n₀ to c₁ and n₁
pub record Answered (q : GenerateInput) (c₀ c₁ n₀ n₁ : List ℕ) (r : Generated) : Type 0 where
  pub result : r ≡ generated_of q (length c₀) (length n₀)
  pub candidates : c₁ ≡ front_of (generate_fault q (length c₀) (length n₀)) (candidate_words q) c₀
  pub numbers : n₁ ≡ front_of (generate_fault q (length c₀) (length n₀)) (number_words q) n₀
