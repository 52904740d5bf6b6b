-- `log_text::put_refused` meets its contract.
use Rattle.std.proofs.Common.{refl, arith}
use Rattle.log_text.proofs.put_refused.Goals as goal

pub returns-then-good : goal.returns-then-good
returns-then-good c = rw c.if-good.true (record { ends = omega arith; stands = refl })

pub returns : goal.returns
returns c = rw c.if-good.false c.put_row.ensures
