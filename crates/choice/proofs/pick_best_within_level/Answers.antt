-- `choice::pick_best_within_level` meets its contract.
use Rattle.std.proofs.Common.{sym, ◌∙◌}
use Rattle.choice.specs.Choice.Tiers.{within_none, within-kept, within-yields}
use Rattle.choice.proofs.pick_best_within_level.Goals as goal

pub returns-then-saturated_at : goal.returns-then-saturated_at
returns-then-saturated_at c = let a = c.args in within-yields a.candidates.now a.estimates.now a.scores a.level _ _ (c.in_ok-place.ensures a.estimates.now) (sym c.saturated_at.ensures ∙ c.if-saturated_at.true) _ (c.longest_of_level.ensures a.scores)

pub returns : goal.returns
returns c = let a = c.args in within-kept a.candidates.now a.estimates.now a.scores a.level _ _ (c.in_ok-place.ensures a.estimates.now) (sym c.saturated_at.ensures ∙ c.if-saturated_at.false)

pub returns-in_err-place : goal.returns-in_err-place
returns-in_err-place c = let a = c.args in c.from_residual.ensures ∙ within_none a.candidates.now a.estimates.now a.scores a.level _ (c.in_err-place.ensures a.estimates.now)
