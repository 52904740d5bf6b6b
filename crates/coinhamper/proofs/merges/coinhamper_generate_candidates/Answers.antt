-- `coinhamper::merges::coinhamper_generate_candidates` meets its contract.
use Rattle.std.proofs.Common.{refl, ne_eqb}
use Rattle.refusals.specs.Codes.Same.{refused}
use Rattle.coinhamper.specs.Merges.Told.{generation}
use Rattle.coinhamper.proofs.merges.coinhamper_generate_candidates.Goals as goal

pub returns-in-Ok : goal.returns-in-Ok
returns-in-Ok c = generation _ _ _ _ _ _ _ _ _ 0 0 _ c.in-Ok.ensures (refl, refl) (refl, refl)

pub returns-in-Err : goal.returns-in-Err
returns-in-Err c =
    generation _ _ _ _ _ _ _ _ _ _ _ _ c.in-Err.ensures (c.from.ensures, rw (ne_eqb _ _ (refused c.in-Err.refusal))) (c.from.ensures, rw (ne_eqb _ _ (refused c.in-Err.refusal)))
