-- `engine::observe_engine` meets its contract.
use Rattle.std.proofs.Common.{refl, ap, sym, ◌∙◌}
use Rattle.std.proofs.lemmas.Result.{err_from_is_err_and}
use Rattle.refusals.specs.Codes.{number_of}
use Rattle.refusals.specs.Codes.Same as same
use Rattle.refusals.specs.Refusals.{none}
use Rattle.kinds.specs.Tuning.{source}
use Rattle.state.specs.State.{Observed}
use Rattle.state.specs.State.Answered.{left}
use Rattle.governor.specs.Observe.{observed_of}
use Rattle.engine.specs.Engine.{sample_of}
use Rattle.engine.specs.Engine.WindowFault.{sum_fits, refused-before, refused, accepted}
use Rattle.engine.proofs.observe_engine.Goals as goal

pub returns-in_err-window_fault : goal.returns-in_err-window_fault
returns-in_err-window_fault c = let x = c.args in
    let e = c.in_err-window_fault.field-0.0 in
    let o = refused-before source x.s.now x.now x.e x.a (number_of e) c.in_err-window_fault.ensures (same.refused e) in
    let p = err_from_is_err_and c.from_residual.result c.from_residual.ensures.1 in
    record { refusal = rw (p.1, p.2) (ap (λ (o : Observed). o.refusal) o); state = ap (λ (o : Observed). o.state) o }

pub returns-in_err-observe : goal.returns-in_err-observe
unfolding observed_of
returns-in_err-observe c = let x = c.args in
    let known = c.in_ok-window_fault.ensures in
    let h = sum_fits source x.s.now x.now x.e x.a none known refl in
    let e = c.in_err-observe.field-0.0 in
    let o = observed_of source x.s.now x.now (sample_of x.s.now x.e x.a) in
    let k = simp (c.sample.ensures, c.probed_per_get-probed.ensures h) at c.in_err-observe.ensures in
    let r = refused source x.s.now x.now x.e x.a none known refl o refl (λ z. same.refused e (k.refusal ∙ z)) in
    let p = err_from_is_err_and c.from_residual-in_err-observe.result c.from_residual-in_err-observe.ensures.1 in
    record {
      refusal = rw (p.1, p.2) (k.refusal ∙ ap (λ (o : Observed). o.refusal) r);
      state = k.state ∙ sym (left _ x.s.now _ e k.refusal) ∙ ap (λ (o : Observed). o.state) r;
    }

pub returns : goal.returns
returns c = let x = c.args in
    let known = c.in_ok-window_fault.ensures in
    let h = sum_fits source x.s.now x.now x.e x.a none known refl in
    let o = observed_of source x.s.now x.now (sample_of x.s.now x.e x.a) in
    let k = simp (c.sample.ensures, c.probed_per_get-probed.ensures h) at c.in_ok-observe.ensures in
    let a = accepted source x.s.now x.now x.e x.a none known refl o refl (sym k.refusal) c.window_now-s.result (c.window_now-s.ensures h) in
    record { refusal = k.refusal ∙ ap (λ (o : Observed). o.refusal) a; state = rw k.state (ap (λ (o : Observed). o.state) a) }
