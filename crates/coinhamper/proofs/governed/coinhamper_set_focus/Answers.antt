-- `coinhamper::governed::coinhamper_set_focus` meets its contract.
use Rattle.std.proofs.Common.{◌≡◌, sym, ◌∙◌, ap}
use Rattle.refusals.specs.Refusals.{none}
use Rattle.state_words.specs.StateWords.{no_such_case, state_in, refusal_of, words_after}
use Rattle.coinhamper.specs.Governed.{focused_by}
use Rattle.coinhamper.proofs.governed.coinhamper_set_focus.Goals as goal

pub returns-then-focus_good : goal.returns-then-focus_good
unfolding focused_by
returns-then-focus_good c = let x = c.args in
    let o : record { refusal = none; state = c.set_focus.result } ≡ focused_by (state_in x.state.now) x.focus_flag x.focus_level x.focus_streak =
    rw (c.set_focus.ensures, c.focus_of-focus.ensures, c.state_in-s.ensures, sym c.focus_good.ensures ∙ c.if-focus_good.true) in
    record { value = c.keep.ensures.value ∙ ap (refusal_of _) o; state_after = c.keep.ensures.words_after ∙ ap (words_after _) o }

pub returns : goal.returns
unfolding focused_by
returns c = let x = c.args in
    let o : record { refusal = no_such_case; state = c.state_in-s.result } ≡ focused_by (state_in x.state.now) x.focus_flag x.focus_level x.focus_streak =
    rw (c.state_in-s.ensures, sym c.focus_good.ensures ∙ c.if-focus_good.false) in
    record { value = c.keep-2.ensures.value ∙ ap (refusal_of _) o; state_after = c.keep-2.ensures.words_after ∙ ap (words_after _) o }
