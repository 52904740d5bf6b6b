-- `coinhamper::governed::coinhamper_record_candidate_chosen` meets its contract.
use Rattle.std.proofs.Common.{◌≡◌, ◌∙◌, ap}
use Rattle.refusals.specs.Refusals.{none}
use Rattle.state_words.specs.StateWords.{no_such_case, state_in, refusal_of, words_after}
use Rattle.coinhamper.specs.Governed.{chosen_by}
use Rattle.coinhamper.specs.Governed.Kinds.{by_kind}
use Rattle.coinhamper.proofs.governed.coinhamper_record_candidate_chosen.Goals as goal

pub returns-in-Some : goal.returns-in-Some
returns-in-Some c = let x = c.args in
    let b = rw (← c.in-Some.ensures) at (by_kind (state_in x.state.now) x.kind x.level x.batch_len) in
    let o : record { refusal = none; state = c.record_candidate_chosen.result } ≡ chosen_by (state_in x.state.now) x.kind x.level x.batch_len =
    rw (c.record_candidate_chosen.ensures, c.state_in-s.ensures) b in
    record { value = c.keep.ensures.value ∙ ap (refusal_of _) o; state_after = c.keep.ensures.words_after ∙ ap (words_after _) o }

pub returns-in-None : goal.returns-in-None
returns-in-None c = let x = c.args in
    let b = rw (← c.in-None.ensures) at (by_kind (state_in x.state.now) x.kind x.level x.batch_len) in
    let o : record { refusal = no_such_case; state = c.state_in-s.result } ≡ chosen_by (state_in x.state.now) x.kind x.level x.batch_len =
    rw c.state_in-s.ensures b in
    record { value = c.keep-in-None.ensures.value ∙ ap (refusal_of _) o; state_after = c.keep-in-None.ensures.words_after ∙ ap (words_after _) o }
