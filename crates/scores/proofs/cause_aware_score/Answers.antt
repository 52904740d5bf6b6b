-- `scores::cause_aware_score` meets its contract.
use Rattle.scores.specs.Score.{benefit_of, score_of}
use Rattle.scores.proofs.cause_aware_score.Goals as goal

pub returns : goal.returns
unfolding benefit_of score_of
returns c = rw (c.ln_1p-log.ensures, c.sqrt-root.ensures, c.max.ensures)
