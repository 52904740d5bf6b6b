-- `coinhamper::logged::coinhamper_recent_decisions` meets its contract.
use Rattle.std.proofs.Common.{◌∙◌}
use Rattle.recent.specs.Recent.{recent_of}
use Rattle.coinhamper.proofs.logged.coinhamper_recent_decisions.Goals as goal

pub returns : goal.returns
unfolding recent_of
returns c = record { value = c.code.ensures ∙ rw c.head_in.ensures at c.recent_decisions.ensures.refusal; out_after = rw c.head_in.ensures at c.recent_decisions.ensures.out_after }
