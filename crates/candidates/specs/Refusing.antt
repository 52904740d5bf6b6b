-- How the room comes after the input's faults, and the call's answer where it is refused and where it is given.
use Rattle.std.specs.Prelude.{◌≡◌, true, false, cond, List, [], ◌∷◌, ◌++◌, ℕ, ◌/◌, ◌≤◌, eqb}
use Rattle.std.proofs.Common.{◌∙◌, arith}
use Rattle.std.proofs.Math.ListN.{length}
use Rattle.std.proofs.lemmas.List.Edits.{sets}
use borrow.Author.Tests.{ltb-false, eq-eqb, ne_eqb}
use Rattle.refusals.specs.Refusals.{◌gives◌, first_fault, none, too_many, bad_level, no_room}
use Rattle.refusals.specs.Checks.{check_for, fault_join, clear_for}
use Rattle.lists.specs.Tests.{neither}
use Rattle.lists.specs.Writes.{sets_front, sets_past}
use Rattle.records.specs.Tables.{tables_of}
use Rattle.faults.specs.Limits.{max_tables}
use Rattle.faults.specs.Tables.{too_many_tables, too_many_entries}
use Rattle.l0_words.specs.declared.Ends.{Ends}
use Rattle.l0_words.specs.Written.{Written, start}
use Rattle.candidate_words.specs.Candidates.{lent_offers}
use Rattle.candidate_words.specs.Bounds.{words-length}
use Rattle.candidates.specs.Generate.{GenerateInput, words_checks, made_of, candidate_words, number_words, input_checks, input_fault, short_of, generate_fault, generated_of, Answered}

module _ (q : GenerateInput) (room₁ room₂ : ℕ) where
  fault_room : generate_fault q room₁ room₂ ≡ cond (eqb (input_fault q.tables q.keys q.over) 0) (cond (short_of q room₁ room₂) no_room 0) (input_fault q.tables q.keys q.over)
  unfolding generate_fault input_checks
  fault_room = fault_join (input_checks q.tables q.keys q.over) (short_of q room₁ room₂ gives no_room ∷ []) tt

  pub fault_input : (input_fault q.tables q.keys q.over ≡ 0 → ⊥) → generate_fault q room₁ room₂ ≡ input_fault q.tables q.keys q.over
  fault_input h = fault_room ∙ simp (ne_eqb _ _ h)

  module _ (clear : input_fault q.tables q.keys q.over ≡ 0) where
    pub fault_short : short_of q room₁ room₂ ≡ true → generate_fault q room₁ room₂ ≡ no_room
    fault_short h = fault_room ∙ simp (eq-eqb _ _ clear, h)

    fault_none : short_of q room₁ room₂ ≡ false → generate_fault q room₁ room₂ ≡ 0
    fault_none h = fault_room ∙ simp (eq-eqb _ _ clear, h)

-- a run over an empty buffer leaves it empty
pub nothing : (ws a l : List ℕ) → a ≡ sets [] 0 ws → a ++ l ≡ l
nothing ws a l e = rw (e, sets_past ws [] 0 (omega arith))

module _ (q : GenerateInput) (c₀ n₀ : List ℕ) where
  pub answer-refused : (f : ℕ) → generate_fault q (length c₀) (length n₀) ≡ f → (f ≡ 0 → ⊥) → Answered q c₀ c₀ n₀ n₀ (record { refusal = f; candidates = 0; numbers = 0 })
  unfolding generated_of
  answer-refused f e h =
      record { result = simp (e, ne_eqb _ _ h); candidates = simp (e, ne_eqb _ _ h); numbers = simp (e, ne_eqb _ _ h) }

  pub answer-given : (c₁ n₁ : List ℕ) (end : Ends) → input_fault q.tables q.keys q.over ≡ 0 → short_of q (length c₀) (length n₀) ≡ false → Written start (made_of q) c₀ c₁ n₀ n₁ end
      → Answered q c₀ c₁ n₀ n₁ (record { refusal = 0; candidates = end.words / 6; numbers = end.numbers })
  unfolding generated_of
  answer-given c₁ n₁ end clear h w =
      let e = fault_none q (length c₀) (length n₀) clear h in
      let m : end.words / 6 ≡ length (made_of q) = omega (arith, w.words.ends, words-length 0 (made_of q)) in
      let n : end.numbers ≡ length (number_words q) = omega (arith, w.numbers.ends) in
      let room = neither _ _ h in
      record {
        result = simp (e, m, n);
        candidates = simp e (w.words.stands ∙ sets_front (candidate_words q) c₀ (ltb-false _ _ room.0));
        numbers = simp e (w.numbers.stands ∙ sets_front (number_words q) n₀ (ltb-false _ _ room.1));
      }

-- of an input in which nothing is wrong all is written
pub lent-made : (q : GenerateInput) → input_fault q.tables q.keys q.over ≡ 0 → lent_offers q.tables q.keys q.trigger q.over ≡ made_of q
unfolding input_checks lent_offers
lent-made q e =
    let clear : (m : ℕ) → check_for m (input_checks q.tables q.keys q.over) ≡ false = λ m. clear_for m (input_checks q.tables q.keys q.over) tt e in
    simp (clear too_many, clear bad_level)

-- words that pass hold no more tables than the order has places for
pub words-few : (tables keys over : List ℕ) → first_fault (words_checks tables keys over) ≡ none → length (tables_of tables) ≤ max_tables
words-few tables keys over e =
    ltb-false max_tables (length (tables_of tables)) (neither (too_many_tables tables) (too_many_entries over) (clear_for too_many (words_checks tables keys over) tt e)).0
