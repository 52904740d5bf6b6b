-- `choice::pick_best_cause_aware` meets its contract.
use Rattle.std.proofs.Common.{eq-eqb, sym, ◌∙◌}
use Rattle.std.proofs.lemmas.Result.{err_from_is_err_and}
use Rattle.choice.specs.Choice.Accepted.{pickable}
use Rattle.choice.specs.Choice.Refusal.{picked-refusal}
use Rattle.choice.specs.Choice.Call.{picked_of}
use Rattle.choice.proofs.pick_best_cause_aware.Goals as goal

pub choose-requires : goal.choose-requires
choose-requires c = pickable _ _ _ (sym c.in_ok-pick_fault.ensures)

pub returns-clause-refusal : goal.returns-clause-refusal
returns-clause-refusal c = c.in_ok-pick_fault.ensures ∙ sym (picked-refusal _ _ _ _)

pub returns-clause-picked : goal.returns-clause-picked
unfolding picked_of
returns-clause-picked c = rw (eq-eqb _ _ (sym c.in_ok-pick_fault.ensures)) c.choose.ensures

pub returns-in_err-pick_fault-clause-refusal : goal.returns-in_err-pick_fault-clause-refusal
returns-in_err-pick_fault-clause-refusal c =
    let p = err_from_is_err_and c.from_residual.result c.from_residual.ensures.1 in
    rw (p.1, p.2) (c.in_err-pick_fault.ensures ∙ sym (picked-refusal _ _ _ _))
