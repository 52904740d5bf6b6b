-- `choice::choose` meets its contract.
use Rattle.std.proofs.Common.{lt-ltb, le-ltb, sym, ◌∙◌}
use Rattle.choice.specs.Choice.Tiers.{first-at, first-none}
use Rattle.search.specs.Search.Reading.{l0_is, read_is}
use Rattle.search.specs.Choices.{choices_from, is_l0_choice}
use Rattle.choice.specs.Choice.{choice_of, focused}
use Rattle.candidate_records.specs.Candidates.{candidates_of, estimates_of}
use Rattle.lists.specs.Filter.{filter_of}
use Rattle.choice.proofs.choose.Goals as goal
use Rattle.choice.proofs.choose.Goals.{in_default-current_focus-via-in-Some-current_focus+else-focus-lt-FOCUS_MAX_CONSECUTIVE_JOBS, in_default-current_focus-via-in_default-current_focus}

pub returns-in-Some : goal.returns-in-Some
unfolding choice_of
returns-in-Some c = first-at _ _ _ (c.in-Some.ensures ∙ sym (l0_is _ 0 _ _ c.requires.paired))

pub returns-in-Some-current_focus : goal.returns-in-Some-current_focus
unfolding choice_of focused
returns-in-Some-current_focus c = let a = c.args in let p = c.requires in let all = choices_from a.vector 0 (candidates_of a.candidates.now) (estimates_of a.estimates.now) in
    rw (c.continue_focus.ensures, c.all_scores-scores.ensures, read_is a.vector a.candidates.now a.estimates.now p.few p.paired, c.in-Some-current_focus.is, lt-ltb _ _ c.if-focus-lt-FOCUS_MAX_CONSECUTIVE_JOBS.true)
    (first-none (filter_of is_l0_choice all) _ (c.in_default.ensures ∙ sym (l0_is a.vector 0 _ _ p.paired)))

pub returns-in_default-current_focus : goal.returns-in_default-current_focus
unfolding choice_of focused
returns-in_default-current_focus c =
    let a = c.args in
    let p = c.requires in
    let all = choices_from a.vector 0 (candidates_of a.candidates.now) (estimates_of a.estimates.now) in
    let none = c.in_default.ensures ∙ sym (l0_is a.vector 0 _ _ p.paired) in
    let again = rw (c.all_scores-scores.ensures, read_is a.vector a.candidates.now a.estimates.now p.few p.paired) at c.reselect.ensures in
    elim c.in_default-current_focus.branch [
      | in_default-current_focus-via-in-Some-current_focus+else-focus-lt-FOCUS_MAX_CONSECUTIVE_JOBS w ↦
          rw (again, w.in-Some-current_focus.is, le-ltb _ _ w.if-focus-lt-FOCUS_MAX_CONSECUTIVE_JOBS.false) (first-none (filter_of is_l0_choice all) _ none)
      | in_default-current_focus-via-in_default-current_focus w ↦
          rw (again, w.in_default-current_focus.is) (first-none (filter_of is_l0_choice all) _ none)
    ]
