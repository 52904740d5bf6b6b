-- `decisions::chosen_kind` meets its contract.
use Rattle.std.proofs.Common.{sym, ◌∙◌}
use Rattle.decisions.specs.Decision.Good.{kind-small}
use Rattle.decisions.proofs.chosen_kind.Goals as goal

pub kind_of-requires : goal.kind_of-requires
kind_of-requires c = (kind-small _ _ _ (sym c.chosen_good.ensures ∙ c.if-chosen_good.true)).1
