-- The call `pick_best_cause_aware`: its refusals in 01's order, and its answer. Definitions only.
use Rattle.std.specs.Prelude.{ℕ, ◌%◌, Bool, not, cond, ◌&&◌, ◌||◌, List, [], ◌∷◌, length, eqb, None}
use Rattle.refusals.specs.Refusals.{Check, ◌gives◌, first_fault, none, too_many, bad_record, bad_vector, bad_estimate}
use Rattle.lists.specs.Any.{any_of}
use Rattle.kinds.specs.declared.vector.PressureVector.{PressureVector}
use Rattle.kinds.specs.declared.focus.FocusState.{FocusState}
use Rattle.kinds.specs.declared.tier.SelectionTier.TheVariants.{None as NoTier}
use Rattle.choice.specs.PickAnswer.{PickAnswer}
use Rattle.candidate_records.specs.Candidates.{candidates_of, estimates_of}
use Rattle.candidate_faults.specs.Candidates.{too_many_candidates, broken_candidates, in_unit, estimate_out}
use Rattle.search.specs.Choices.{choices_from}
use Rattle.choice.specs.Choice.{choice_of}

-- the records are no candidates, or the two lists are no pairs
abbrev pub broken_pairs : List ℕ → List ℕ → Bool
broken_pairs cw ew = broken_candidates cw || (not (eqb (length ew % 9) 0) || not (eqb (length (candidates_of cw)) (length (estimates_of ew))))

abbrev pub vector_bad : PressureVector → Bool
vector_bad v = not (in_unit v.l0 && (in_unit v.deep_debt && in_unit v.read))

-- 4, 5, 7, 8
abbrev pub pick_checks : PressureVector → List ℕ → List ℕ → List Check
pick_checks v cw ew =
    too_many_candidates cw gives too_many
    ∷ broken_pairs cw ew gives bad_record
    ∷ vector_bad v gives bad_vector
    ∷ any_of estimate_out (estimates_of ew) gives bad_estimate
    ∷ []

unfoldable pub pick_fault : PressureVector → List ℕ → List ℕ → ℕ
pick_fault v cw ew = first_fault (pick_checks v cw ew)

-- refused: the old focus, no winner, no tier
unfoldable pub picked_of : PressureVector → FocusState → List ℕ → List ℕ → PickAnswer
picked_of v f cw ew =
    cond (eqb (pick_fault v cw ew) none) (choice_of f (choices_from v 0 (candidates_of cw) (estimates_of ew)))
    (record { refusal = pick_fault v cw ew; winner = None; focus = f; tier = NoTier })
