-- `choice::reselect` meets its contract.
use Rattle.choice.specs.Choice.Tiers.{reselect_level, reselect_none}
use Rattle.choice.proofs.reselect.Goals as goal

pub returns : goal.returns
returns c = rw c.pick_best_within_level.ensures (reselect_level _ _ _ (c.in-Some.ensures c.args.estimates.now))

pub returns-in_default : goal.returns-in_default
returns-in_default c = reselect_none _ _ (c.in_default.ensures c.args.estimates.now)
