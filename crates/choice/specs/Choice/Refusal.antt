-- The answer of `pick_best_cause_aware` has its fault's number: what is chosen has none.
use Rattle.std.specs.Prelude.{ℕ, ◌≡◌, refl, List, [], ◌∷◌, ltb, eqb, Option, Some, None}
use Rattle.std.proofs.Common.{sym, ◌∙◌, eqb-true}
use Rattle.lists.specs.Tests.{by-test}
use Rattle.lists.specs.Filter.{filter_of}
use Rattle.kinds.specs.declared.vector.PressureVector.{PressureVector}
use Rattle.kinds.specs.declared.focus.FocusState.{FocusState}
use Rattle.candidate_records.specs.Candidates.{candidates_of, estimates_of}
use Rattle.search.specs.Choices.{Choice, last_best, lower_score, is_l0_choice, choices_from}
use Rattle.choice.specs.PickAnswer.{PickAnswer}
use Rattle.choice.specs.Choice.{best_within, reselected_by, continued_by, continued, reselected, focus_max_jobs, focused, first_or, choice_of}
use Rattle.choice.specs.Choice.Call.{pick_fault, picked_of}

abbrev Accepted : PickAnswer → Type 0
Accepted p = p.refusal ≡ 0

reselects : (cs best : List Choice) → Accepted (reselected_by cs best)
unfolding reselected_by
reselects cs [] = refl
reselects cs (top ∷ more) = refl

continues : (l streak : ℕ) (cs best : List Choice) → Accepted (continued_by l streak cs best)
unfolding continued_by
continues l streak cs [] = reselects cs (last_best lower_score cs)
continues l streak cs (top ∷ more) = refl

focuses : (at : Option ℕ) (streak : ℕ) (cs : List Choice) → Accepted (focused at streak cs)
unfolding focused
focuses None streak cs = reselects cs (last_best lower_score cs)
focuses (Some l) streak cs =
    by-test Accepted (ltb streak focus_max_jobs) (continued l streak cs) (reselected cs) (λ _. continues l streak cs (best_within l cs)) (λ _. reselects cs (last_best lower_score cs))

first : (cs : List Choice) (other : PickAnswer) → Accepted other → Accepted (first_or cs other)
unfolding first_or
first [] other h = h
first (c ∷ cs) other h = refl

chosen : (f : FocusState) (cs : List Choice) → Accepted (choice_of f cs)
unfolding choice_of
chosen f cs = first (filter_of is_l0_choice cs) _ (focuses f.current_focus f.streak cs)

pub picked-refusal : (v : PressureVector) (f : FocusState) (cw ew : List ℕ) → (picked_of v f cw ew).refusal ≡ pick_fault v cw ew
unfolding picked_of
picked-refusal v f cw ew =
    by-test (λ (p : PickAnswer). p.refusal ≡ pick_fault v cw ew) (eqb (pick_fault v cw ew) 0) (choice_of f (choices_from v 0 (candidates_of cw) (estimates_of ew))) _
    (λ e. chosen f _ ∙ sym (eqb-true (pick_fault v cw ew) 0 e)) (λ _. refl)
