-- The call's faults step by step: the words' own, then a number that comes twice, then the values'.
use Rattle.std.specs.Prelude.{◌≡◌, Bool, true, false, ◌||◌, List, ◌∷◌, ℕ, ◌≤◌, length}
use Rattle.std.proofs.Common.{sym, ◌∙◌}
use borrow.Author.Tests.{ltb-false}
use Rattle.lists.specs.Any.{any_of}
use Rattle.lists.specs.Tests.{neither}
use Rattle.refusals.specs.Refusals.{Check, ◌gives◌, first_fault, none, too_many, duplicate_number}
use Rattle.refusals.specs.Checks.{pass, stop, join_stop, join_pass, clear_for}
use Rattle.records.specs.Tables.{tables_of}
use Rattle.number_order.specs.Numbers.{repeats}
use Rattle.faults.specs.Limits.{max_tables}
use Rattle.faults.specs.Tables.{too_many_tables, too_many_entries}
use Rattle.candidate_records.specs.Candidates.{candidates_of}
use Rattle.candidate_faults.specs.Candidates.{too_many_candidates, too_many_numbers}
use Rattle.estimate_faults.specs.Faults.{EstimateInput, words_checks, values_checks, estimate_fault}

module _ (q : EstimateInput) (room : ℕ) where
  words : List Check
  words = words_checks q.tables q.over q.candidates (length q.numbers)

  later : List Check
  later = repeats (tables_of q.tables) gives duplicate_number ∷ values_checks q.next q.over q.candidates room

  module _ {x : ℕ} (e : x ≡ first_fault (words_checks q.tables q.over q.candidates (length q.numbers))) where
    pub words-stop : ¬ (x ≡ none) → x ≡ estimate_fault q room
    unfolding estimate_fault words later
    words-stop n = join_stop words later tt e n

    -- words that pass hold no more tables than the order has places for
    pub words-few : x ≡ none → length (tables_of q.tables) ≤ max_tables
    unfolding words
    words-few z =
        ltb-false max_tables (length (tables_of q.tables)) (neither (too_many_tables q.tables) (too_many_entries q.over || (too_many_candidates q.candidates || any_of too_many_numbers (candidates_of q.candidates))) (clear_for too_many words tt (sym e ∙ z))).0

    module _ (z : x ≡ none) {t : Bool} (f : t ≡ repeats (tables_of q.tables)) where
      pub repeats-stop : t ≡ true → duplicate_number ≡ estimate_fault q room
      unfolding estimate_fault words later
      repeats-stop y = join_pass words later tt e z (stop duplicate_number _ f y)

      pub values_give : t ≡ false → {y : ℕ} → y ≡ first_fault (values_checks q.next q.over q.candidates room) → y ≡ estimate_fault q room
      unfolding estimate_fault words later
      values_give n g = join_pass words later tt e z (pass duplicate_number f n g)
