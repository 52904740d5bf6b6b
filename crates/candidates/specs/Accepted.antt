-- What an accepted call of `generate_candidates` may rely on.
use Rattle.std.specs.Prelude.{◌≡◌, refl, false, ◌||◌, [], ◌∷◌, ◌++◌, ℕ, length, eqb}
use Rattle.std.proofs.Common.{sym, eqb-true, eq-eqb}
use Rattle.lists.specs.Tests.{neither, by-test}
use Rattle.refusals.specs.Refusals.{◌gives◌, none, too_many, bad_record, duplicate_number, bad_level, no_room}
use Rattle.refusals.specs.Checks.{check_for, clear_for}
use Rattle.records.specs.Tables.{tables_of}
use Rattle.number_order.specs.Numbers.{repeats}
use Rattle.faults.specs.Tables.{too_many_tables, broken_tables, broken_keys, too_many_entries, broken_entries, levels_out}
use Rattle.candidates.specs.Generate.{Generated, GenerateInput, made_of, number_words, input_checks, short_of, generate_fault, generated_of}

-- the answer's refusal is the call's fault
pub generated-refusal : (q : GenerateInput) (room₁ room₂ : ℕ) → (generated_of q room₁ room₂).refusal ≡ generate_fault q room₁ room₂
unfolding generated_of
generated-refusal q room₁ room₂ =
    by-test (λ (r : Generated). r.refusal ≡ generate_fault q room₁ room₂) (eqb (generate_fault q room₁ room₂) none) _ _ (λ e. sym (eqb-true _ none e)) (λ e. refl)

pub record Accepted (q : GenerateInput) (room₁ room₂ : ℕ) : Type 0 where
  pub few-tables : too_many_tables q.tables ≡ false
  pub few-entries : too_many_entries q.over ≡ false
  pub tables : broken_tables q.tables ≡ false
  pub keys : broken_keys (length q.keys) q.tables ≡ false
  pub entries : broken_entries q.over ≡ false
  pub different : repeats (tables_of q.tables) ≡ false
  pub levels : levels_out q.over ≡ false
  pub room : short_of q room₁ room₂ ≡ false

pub accepted : (q : GenerateInput) (room₁ room₂ : ℕ) → generate_fault q room₁ room₂ ≡ 0 → Accepted q room₁ room₂
unfolding generate_fault input_checks
accepted q room₁ room₂ z =
    let checks = input_checks q.tables q.keys q.over ++ (short_of q room₁ room₂ gives no_room ∷ []) in
    let clear : (m : ℕ) → check_for m checks ≡ false = λ m. clear_for m checks tt z in
    let many = neither (too_many_tables q.tables) (too_many_entries q.over) (clear too_many) in
    let broken = neither (broken_tables q.tables) (broken_keys (length q.keys) q.tables || broken_entries q.over) (clear bad_record) in
    let rest = neither (broken_keys (length q.keys) q.tables) (broken_entries q.over) broken.1 in
    record { few-tables = many.0; few-entries = many.1; tables = broken.0; keys = rest.0; entries = rest.1; different = clear duplicate_number; levels = clear bad_level; room = clear no_room }

pub generated-count : (q : GenerateInput) (room₁ room₂ : ℕ) → generate_fault q room₁ room₂ ≡ 0 → generated_of q room₁ room₂ ≡ record { refusal = none; candidates = length (made_of q); numbers = length (number_words q) }
unfolding generated_of
generated-count q room₁ room₂ z = rw (eq-eqb (generate_fault q room₁ room₂) none z)
