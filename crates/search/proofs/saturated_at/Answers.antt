-- `search::saturated_at` meets its contract.
use Rattle.std.proofs.Common.{eq-eqb, ne_eqb}
use Rattle.search.proofs.saturated_at.Goals as goal

pub returns-then-candidate_at-eq2 : goal.returns-then-candidate_at-eq2
returns-then-candidate_at-eq2 c = rw (← c.candidate_at.ensures, eq-eqb _ _ c.if-candidate_at-eq2.true, c.estimate_at.ensures)

pub returns-else-candidate_at-eq2 : goal.returns-else-candidate_at-eq2
returns-else-candidate_at-eq2 c = rw (← c.candidate_at.ensures, ne_eqb _ _ c.if-candidate_at-eq2.false)
