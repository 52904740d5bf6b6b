-- `estimates::estimate_candidates` meets its contract.
use Rattle.std.proofs.Common.{refl, sym, ◌∙◌, ap}
use Rattle.std.proofs.lemmas.Result.{err_from_is_err_and}
use Rattle.estimates.specs.Estimate.Call.{Estimated}
use Rattle.estimates.specs.Estimate.Accepted.{accepted, estimated-refusal, when_accepted}
use Rattle.estimate_faults.specs.Faults.{estimate_input}
use Rattle.estimates.proofs.estimate_candidates.Goals as goal

pub returns-in_err-estimate_fault-clause-refusal : goal.returns-in_err-estimate_fault-clause-refusal
returns-in_err-estimate_fault-clause-refusal c =
    let p = err_from_is_err_and c.from_residual.result c.from_residual.ensures.1 in rw (p.1, p.2) (c.in_err-estimate_fault.ensures.refusal ∙ sym (estimated-refusal _ _))

pub write_estimates-requires : goal.write_estimates-requires
write_estimates-requires c = accepted _ _ (sym c.in_ok-estimate_fault.ensures.refusal)

pub returns : goal.returns
returns c = let a = c.args in
    let w = when_accepted (estimate_input a.tables.now a.next_file_number a.over_budget_levels.now a.candidates.now a.numbers.now) a.estimates.now c.in_ok-estimate_fault.ensures.refusal refl c.write_estimates.ensures in
    record { refusal = ap (λ (e : Estimated). e.refusal) w.0; count = ap (λ (e : Estimated). e.estimates) w.0; estimates_after = w.1 }
