-- `recording::record_decision` meets its contract.
use Rattle.std.proofs.Common.{sym, ◌∙◌, eq-eqb, arith}
use Rattle.recording.specs.Recording.{recorded_of, recorded_words}
use Rattle.next_log.specs.Next.Small.{next_small}
use Rattle.recording.specs.Recording.Sound.{record_sound}
use Rattle.recording.proofs.record_decision.Goals as goal

pub overflow_mul-at : goal.overflow_mul-at
overflow_mul-at c = let p = next_small _ _ (record_sound _ _ (sym c.in_ok-record_fault.ensures)) in omega arith

pub returns : goal.returns
unfolding recorded_of recorded_words
returns c = let f = c.in_ok-record_fault.ensures in
    let e = eq-eqb _ _ (sym f) in
    record {
      refusal = f;
      log = simp (e, c.next_log.ensures);
      words_after = simp e (c.put_words.ensures ∙ rw (c.next_place.ensures, c.to_words-written.ensures, c.with_sequence.ensures, c.next_sequence.ensures));
    }
