-- `observe_words::windowed::observe_engine` meets its contract.
use Rattle.std.proofs.Common.{sym, ◌∙◌}
use Rattle.engine.specs.Engine.WindowFault.{sum_fits}
use Rattle.refusals.specs.Codes.{number_of}
use Rattle.refusals.specs.Codes.Same as same
use Rattle.kinds.specs.Tuning.{source}
use Rattle.state_words.specs.StateWords.{state_from, gated, words_after}
use Rattle.observe_words.specs.ObserveWords.Laws.{told_none}
use Rattle.observe_words.specs.ObserveWords.Engine.{refused-before, refused, accepted}
use Rattle.observe_words.proofs.windowed.observe_engine.Goals as goal

pub returns-in_default : goal.returns-in_default
unfolding gated words_after
returns-in_default c = let e = sym c.in_default.ensures.some in record { value = simp e; words_after = simp e }

pub returns-in-Err : goal.returns-in-Err
returns-in-Err c =
    let e = c.in-Err.refusal in
    let r = refused-before _ _ _ _ (sym c.in-Some.ensures.some) (number_of e) (rw c.in-Some.ensures.words at c.in-Err.ensures) (same.refused e) in
    record { value = c.from.ensures ∙ r.0; words_after = r.1 }

pub returns-then-refusal-ne-NONE : goal.returns-then-refusal-ne-NONE
returns-then-refusal-ne-NONE c = let x = c.args in
    let n = told_none _ c.in_default-window_fault.not-Err in
    let k = rw c.in-Some.ensures.words at c.window_fault.ensures in
    let p = rw c.in-Some.ensures.words at c.sample-p.ensures (sum_fits source (state_from x.words.now) x.clock x.e x.a _ k n) in
    let r = refused _ _ _ _ (sym c.in-Some.ensures.some) _ k n _ p _ _ (c.observe-refusal.ensures.value, c.observe-refusal.ensures.words_after) c.if-refusal-ne-NONE.true in
    record { value = r.0; words_after = r.1 }

pub returns : goal.returns
returns c = let x = c.args in
    let n = told_none _ c.in_default-window_fault.not-Err in
    let k = rw c.in-Some.ensures.words at c.window_fault.ensures in
    let h = sum_fits source (state_from x.words.now) x.clock x.e x.a _ k n in
    let p = rw c.in-Some.ensures.words at c.sample-p.ensures h in
    let a = accepted _ _ _ _ (sym c.in-Some.ensures.some) _ k n _ p _ _ (c.observe-refusal.ensures.value, c.observe-refusal.ensures.words_after) c.if-refusal-ne-NONE.false c.window_now-w.result (c.window_now-w.ensures h) in
    record { value = a.0; words_after = c.put_words.ensures ∙ a.1 }
