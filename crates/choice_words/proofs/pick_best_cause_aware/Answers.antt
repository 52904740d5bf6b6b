-- `choice_words::pick_best_cause_aware` meets its contract.
use Rattle.choice_words.specs.ChoiceWords.Told.{refused_value, refused_words}
use Rattle.choice_words.proofs.pick_best_cause_aware.Goals as goal

pub returns-in-Err-clause-value : goal.returns-in-Err-clause-value
returns-in-Err-clause-value c = rw (c.case_fault-in-Err.ensures, c.from.ensures, c.focus_good-good.ensures, ← c.focus_of-focus.ensures, ← c.in-Err.ensures.refusal) (refused_value _ _ _)

pub returns-in-Err-clause-picked_after : goal.returns-in-Err-clause-picked_after
returns-in-Err-clause-picked_after c = rw (c.case_fault-in-Err.ensures, c.from.ensures) (refused_words _ _ _ _)
