-- `coinhamper::governed::coinhamper_record_outcome` meets its contract.
use Rattle.std.proofs.Common.{◌≡◌, ◌∙◌, ap}
use Rattle.state.specs.State.Answered.{whole}
use Rattle.report.specs.Counters.{outcome_of}
use Rattle.state_words.specs.StateWords.{state_in, refusal_of, words_after}
use Rattle.coinhamper.proofs.governed.coinhamper_record_outcome.Goals as goal

pub returns : goal.returns
unfolding outcome_of
returns c = let x = c.args in
    let h = c.with_outcome-recorded.ensures in
    let o : record { refusal = c.code.result; state = c.unwrap_or.result } ≡ outcome_of (state_in x.state.now) x.predicted x.actual =
    rw (c.code.ensures, c.unwrap_or.ensures, ← c.state_in-s.ensures) (whole _ _ _ _ h.refusal h.state) in
    record { value = c.keep.ensures.value ∙ ap (refusal_of _) o; state_after = c.keep.ensures.words_after ∙ ap (words_after _) o }
