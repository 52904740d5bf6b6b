-- `coinhamper::logged::coinhamper_is_decision` meets its contract.
use Rattle.std.proofs.Common.{sym, ◌∙◌}
use Rattle.coinhamper.proofs.logged.coinhamper_is_decision.Goals as goal

pub returns-then-is_decision : goal.returns-then-is_decision
returns-then-is_decision c = simp (sym c.is_decision.ensures ∙ c.if-is_decision.true)

pub returns : goal.returns
returns c = simp (sym c.is_decision.ensures ∙ c.if-is_decision.false)
