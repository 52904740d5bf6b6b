-- `estimates::older` meets its contract.
use Rattle.std.proofs.Common.{eq-eqb, ne_eqb, arith}
use Rattle.estimates.specs.Estimate.Tally.{older_of}
use Rattle.estimates.proofs.older.Goals as goal

pub returns-then-t-eq0 : goal.returns-then-t-eq0
unfolding older_of
returns-then-t-eq0 c = rw (eq-eqb _ _ c.if-t-eq0.true)

pub returns-then-number-t : goal.returns-then-number-t
unfolding older_of
returns-then-number-t c = rw (ne_eqb _ _ c.if-t-eq0.false) (omega arith)

pub returns : goal.returns
unfolding older_of
returns c = rw (ne_eqb _ _ c.if-t-eq0.false) (omega arith)
