-- What `estimate_candidates` is given to read, and its refusals in 01's order. Definitions only.
use Rattle.std.specs.Prelude.{ℕ, ◌*◌, ◌^◌, Bool, ◌||◌, List, [], ◌∷◌, ◌++◌, length, ltb}
use Rattle.refusals.specs.Refusals.{Check, ◌gives◌, first_fault, too_many, bad_record, bad_level, too_large, no_room, duplicate_number}
use Rattle.lists.specs.Any.{any_of}
use Rattle.records.specs.Tables.{tables_of}
use Rattle.number_order.specs.Numbers.{repeats}
use Rattle.faults.specs.Tables.{too_many_tables, broken_tables, too_many_entries, broken_entries, levels_out}
use Rattle.candidate_records.specs.Candidates.{candidates_of}
use Rattle.candidate_faults.specs.Candidates.{too_many_candidates, too_many_numbers, broken_candidates, numbers_out}

pub record EstimateInput : Type 0 where
  pub tables : List ℕ
  pub next : ℕ
  pub over : List ℕ
  pub candidates : List ℕ
  pub numbers : List ℕ

abbrev pub estimate_input : List ℕ → ℕ → List ℕ → List ℕ → List ℕ → EstimateInput
estimate_input tables next over candidates numbers = record { tables = tables; next = next; over = over; candidates = candidates; numbers = numbers }

abbrev pub too_many_inputs : List ℕ → List ℕ → List ℕ → Bool
too_many_inputs tables over candidates =
    too_many_tables tables || (too_many_entries over || (too_many_candidates candidates || any_of too_many_numbers (candidates_of candidates)))

-- n is how many numbers there are
abbrev pub broken_inputs : List ℕ → List ℕ → List ℕ → ℕ → Bool
broken_inputs tables over candidates n =
    broken_tables tables || (broken_entries over || (broken_candidates candidates || any_of (numbers_out n) (candidates_of candidates)))

-- 4, 5: whole records, few and sound; n is how many numbers there are
abbrev pub words_checks : List ℕ → List ℕ → List ℕ → ℕ → List Check
words_checks tables over candidates n =
    too_many_inputs tables over candidates gives too_many
    ∷ broken_inputs tables over candidates n gives bad_record
    ∷ []

-- 6, 2, 9: the room is the length of the output buffer
abbrev pub values_checks : ℕ → List ℕ → List ℕ → ℕ → List Check
values_checks next over candidates room =
    levels_out over gives bad_level
    ∷ ltb (2 ^ 53) next gives too_large
    ∷ ltb room (9 * length (candidates_of candidates)) gives no_room
    ∷ []

-- 4, 5, 11, 6, 2, 9
abbrev pub estimate_checks : EstimateInput → ℕ → List Check
estimate_checks q room =
    words_checks q.tables q.over q.candidates (length q.numbers)
    ++ repeats (tables_of q.tables) gives duplicate_number
    ∷ values_checks q.next q.over q.candidates room

unfoldable pub estimate_fault : EstimateInput → ℕ → ℕ
estimate_fault q room = first_fault (estimate_checks q room)
