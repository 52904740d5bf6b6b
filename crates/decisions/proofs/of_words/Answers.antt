-- `decisions::of_words` meets its contract.
use Rattle.std.proofs.Common.{sym, ◌∙◌}
use Rattle.decisions.specs.Decision.Good.{good, kind-small}
use Rattle.decisions.proofs.of_words.Goals as goal

pub decision_in-requires : goal.decision_in-requires
decision_in-requires c = let g = good _ (sym c.is_decision.ensures ∙ c.if-is_decision.true) in (g.long, (kind-small _ _ _ g.kind).1)
