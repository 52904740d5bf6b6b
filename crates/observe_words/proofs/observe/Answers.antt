-- `observe_words::observe` meets its contract.
use Rattle.std.proofs.Common.{sym, ◌∙◌, ap}
use Rattle.refusals.specs.Codes.{number_of}
use Rattle.refusals.specs.Codes.Same as same
use Rattle.modes.specs.declared.NextMode.{NextMode}
use Rattle.kinds.specs.Tuning.{source}
use Rattle.governor.specs.Observe.Room.{switch_room}
use Rattle.state_words.specs.StateWords.{state_from, counters_in, gated, words_after}
use Rattle.observe_words.specs.ObserveWords.{observed_words}
use Rattle.observe_words.specs.ObserveWords.Laws.{told_none, refused, accepted, room}
use Rattle.observe_words.proofs.observe.Goals as goal

pub returns-in_default : goal.returns-in_default
unfolding gated words_after
returns-in_default c = let e = sym c.in_default.ensures.some in record { value = simp e; words_after = simp e }

pub observe_fault-requires : goal.observe_fault-requires
observe_fault-requires c = ap (λ (t : NextMode). t.mode) c.next-t.ensures

pub returns-in-Err : goal.returns-in-Err
returns-in-Err c =
    let e = c.in-Err.refusal in
    let r = refused _ _ _ (sym c.in-Some.ensures.some) (number_of e) (rw c.in-Some.ensures.words at c.in-Err.ensures) (same.refused e) in
    record { value = c.from.ensures ∙ r.0; words_after = r.1 }

pub switches_after-switches-requires : goal.switches_after-switches-requires
switches_after-switches-requires c =
    rw (c.next-t.ensures) (switch_room source _ _ _ (room _ _ _ (sym c.observe_fault.ensures ∙ told_none _ c.in_default-observe_fault.not-Err)))

pub returns : goal.returns
unfolding observed_words state_from counters_in
returns c =
    let a = accepted _ _ _ (sym c.in-Some.ensures.some) (rw c.in-Some.ensures.words at (sym (told_none _ c.in_default-observe_fault.not-Err) ∙ c.observe_fault.ensures)) in
    record {
      value = a.0;
      words_after = c.put-2.ensures ∙ rw (c.put.ensures, c.put_words-2.ensures, c.put_words.ensures, c.signal_words-signals.ensures, c.time_words-times.ensures, c.switches_after-switches.ensures, c.to_bits-errors.ensures, c.error_sum.ensures, c.signals_after.ensures, c.times_after.ensures, c.times.ensures, c.mode.ensures, c.next-t.ensures, c.in-Some.ensures.words) a.1;
    }
