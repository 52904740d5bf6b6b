-- `log_words::read_log` meets its contract.
use Rattle.std.proofs.Common.{◌∙◌, eq-eqb, ne_eqb, ap}
use Rattle.refusals.specs.Codes.Same.{refused}
use Rattle.log_words.specs.LogWords.{three_words, read_refusal, read_head, read_words}
use Rattle.log_words.proofs.read_log.Goals as goal

pub returns-then-head-ne3 : goal.returns-then-head-ne3
unfolding read_refusal read_head read_words
returns-then-head-ne3 c = let e = ne_eqb _ _ c.if-head-ne3.true in record { value = simp e; head_after = simp e; words_after = simp e }

pub returns-in-Err : goal.returns-in-Err
unfolding read_refusal read_head read_words
returns-in-Err c = let e = eq-eqb _ _ c.if-head-ne3.false in let t = c.in-Err.ensures.refusal in
    record { value = rw e (c.from.ensures ∙ t); head_after = rw (e, ← t, ne_eqb _ _ (refused c.in-Err.refusal)); words_after = rw e c.read_log.ensures.words_after }

pub returns-in-Ok : goal.returns-in-Ok
unfolding read_refusal read_head read_words
returns-in-Ok c = let e = eq-eqb _ _ c.if-head-ne3.false in let t = c.in-Ok.ensures.refusal in
    record { value = rw e t; head_after = rw (e, ← t) (c.put_head.ensures ∙ ap three_words c.in-Ok.ensures.log); words_after = rw e c.read_log.ensures.words_after }
