-- `trace::decision` meets its contract.
use Rattle.trace.specs.Trace.{decision_for}
use Rattle.trace.proofs.decision.Goals as goal

pub returns : goal.returns
unfolding decision_for
returns c = rw (c.dominant.ensures, c.chosen_kind.ensures)
