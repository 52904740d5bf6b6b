-- `answer_words::tell_delay` meets its contract.
use Rattle.std.proofs.Common.{le-leb}
use Rattle.answer_words.specs.AnswerWords.{pacing_refusal, pacing_after}
use borrow.Author.Tests.{lt-leb}
use Rattle.answer_words.proofs.tell_delay.Goals as goal

pub returns-then-mode-gt2 : goal.returns-then-mode-gt2
unfolding pacing_refusal pacing_after
returns-then-mode-gt2 c = let e = lt-leb _ _ c.if-mode-gt2.true in record { value = simp e; nanos_after = simp e }

pub returns : goal.returns
unfolding pacing_refusal pacing_after
returns c = let e = le-leb _ _ c.if-mode-gt2.false in record { value = simp e; nanos_after = rw e (rw c.mode_of.ensures at c.pacing_delay.ensures) }
