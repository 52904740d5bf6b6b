-- `choice::continue_focus` meets its contract.
use Rattle.std.proofs.Common.{◌∙◌}
use Rattle.choice.specs.Choice.Tiers.{continue_at, continue_none}
use Rattle.choice.proofs.continue_focus.Goals as goal

pub returns : goal.returns
returns c = continue_at _ _ _ _ _ c.in-Some.ensures

pub returns-in_default : goal.returns-in_default
returns-in_default c = c.reselect.ensures ∙ continue_none _ _ _ _ c.in_default.ensures
