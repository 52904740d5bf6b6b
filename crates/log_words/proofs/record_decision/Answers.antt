-- `log_words::record_decision` meets its contract.
use Rattle.std.proofs.Common.{eq-eqb, sym, ◌∙◌, ap}
use Rattle.refusals.specs.Codes.Same.{refused}
use Rattle.recording.specs.Recording.Newest.{add-accepted}
use Rattle.log_words.specs.LogWords.{three_words, record_refusal, record_head, record_words}
use Rattle.log_words.specs.LogWords.Told.{head_long, is_read, clear}
use Rattle.log_words.proofs.record_decision.Goals as goal

pub returns-then-log_bad : goal.returns-then-log_bad
unfolding record_refusal record_head record_words
returns-then-log_bad c = let b = rw c.head_in-g.ensures at (sym c.log_bad.ensures ∙ c.if-log_bad.true) in record { value = simp b; head_after = simp b; words_after = simp b }

pub returns-in_default : goal.returns-in_default
unfolding record_refusal record_head record_words
returns-in_default c = let b = rw c.head_in-g.ensures at (sym c.log_bad.ensures ∙ c.if-log_bad.false) in
    let d = is_read _ _ (sym c.of_words.ensures ∙ c.in_default.is) in record { value = simp (b, d); head_after = simp (b, d); words_after = simp (b, d) }

pub put_head-requires : goal.put_head-requires
put_head-requires c = head_long _ _ (rw c.head_in-g.ensures at (sym c.log_bad.ensures ∙ c.if-log_bad.false))

pub returns-in-Ok : goal.returns-in-Ok
unfolding record_head record_words
returns-in-Ok c = let h = c.head_in-g.ensures in let b = rw h at (sym c.log_bad.ensures ∙ c.if-log_bad.false) in
    let d = is_read _ _ (sym c.of_words.ensures ∙ c.in-Some.is) in
    let k = clear _ _ _ b d.0 in
    record {
      value = sym k;
      head_after = rw (eq-eqb _ _ k, ← h) (c.put_head.ensures ∙ ap three_words c.in-Ok.ensures.log);
      words_after = rw (eq-eqb _ _ k, ← h, d.1) c.record_decision.ensures.words_after;
    }

-- a good log refuses nothing
pub returns-in-Err : goal.returns-in-Err
returns-in-Err c = absurd (refused _ (c.in-Err.ensures.refusal ∙ add-accepted _ _ (sym c.log_bad.ensures ∙ c.if-log_bad.false)))
