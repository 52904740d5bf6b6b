-- `choice_words::scheduling_decision` meets its contract.
use Rattle.std.proofs.Common.{refl, ◌∙◌, ap}
use Rattle.decisions.specs.Decision.{decision_words}
use Rattle.answer_words.specs.AnswerWords.Told.{told}
use Rattle.choice_words.proofs.scheduling_decision.Goals as goal

pub returns : goal.returns
unfolding decision_words
returns c =
    let d = rw c.picked_in.ensures at c.scheduling_decision-d.ensures in
    let both = told _ _ _ _ 14 c.args.decision.now _ _ (rw c.is_picked.ensures at c.case_fault.ensures) (c.to_words-fourteen.ensures ∙ ap decision_words d) refl (c.answer.ensures.value, c.answer.ensures.out_after) in
    record { value = both.0; decision_after = both.1 }
