-- `log::log_bad` meets its contract.
use Rattle.std.proofs.Common.{le-leb, eq-eqb, ne_eqb}
use Rattle.decision_log.specs.Log.{log_bad}
use borrow.Author.Tests.{lt-leb}
use Rattle.decision_log.proofs.log_bad.Goals as goal

pub returns-then-length-ne-LOG_WORDS : goal.returns-then-length-ne-LOG_WORDS
unfolding log_bad
returns-then-length-ne-LOG_WORDS c = simp (ne_eqb _ _ c.if-length-ne-LOG_WORDS.true)

pub returns-then-log-ge-MAX_DECISIONS_KEPT : goal.returns-then-log-ge-MAX_DECISIONS_KEPT
unfolding log_bad
returns-then-log-ge-MAX_DECISIONS_KEPT c = simp (eq-eqb _ _ c.if-length-ne-LOG_WORDS.false, le-leb _ _ c.if-log-ge-MAX_DECISIONS_KEPT.true)

pub returns : goal.returns
unfolding log_bad
returns c = simp (eq-eqb _ _ c.if-length-ne-LOG_WORDS.false, lt-leb _ _ c.if-log-ge-MAX_DECISIONS_KEPT.false)
