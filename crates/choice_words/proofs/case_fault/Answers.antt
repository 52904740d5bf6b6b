-- `choice_words::case_fault` meets its contract.
use Rattle.choice_words.specs.ChoiceWords.{case_fault}
use Rattle.choice_words.proofs.case_fault.Goals as goal

pub returns-then-good : goal.returns-then-good
unfolding case_fault
returns-then-good c = simp c.if-good.true

pub returns : goal.returns
unfolding case_fault
returns c = simp c.if-good.false
