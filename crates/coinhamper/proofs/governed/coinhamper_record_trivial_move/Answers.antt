-- `coinhamper::governed::coinhamper_record_trivial_move` meets its contract.
use Rattle.std.proofs.Common.{◌≡◌, ◌∙◌, ap}
use Rattle.state.specs.State.Answered.{whole}
use Rattle.report.specs.Counters.{trivial_move_of}
use Rattle.state_words.specs.StateWords.{state_in, refusal_of, words_after}
use Rattle.coinhamper.proofs.governed.coinhamper_record_trivial_move.Goals as goal

pub returns : goal.returns
unfolding trivial_move_of
returns c = let x = c.args in
    let h = c.with_trivial_move-moved.ensures in
    let o : record { refusal = c.code.result; state = c.unwrap_or.result } ≡ trivial_move_of (state_in x.state.now) x.bytes_avoided =
    rw (c.code.ensures, c.unwrap_or.ensures, ← c.state_in-s.ensures) (whole _ _ _ _ h.refusal h.state) in
    record { value = c.keep.ensures.value ∙ ap (refusal_of _) o; state_after = c.keep.ensures.words_after ∙ ap (words_after _) o }
