-- `modes::streak` meets its contract.
use Rattle.std.proofs.Common.{arith}
use Rattle.modes.proofs.streak.Goals as goal

pub returns-then-k-eq4294967295 : goal.returns-then-k-eq4294967295
returns-then-k-eq4294967295 c = rw c.if-passed.true (omega arith, λ h. omega arith)

pub returns-then-passed : goal.returns-then-passed
returns-then-passed c = rw c.if-passed.true (omega arith, λ h. omega arith)

pub returns : goal.returns
returns c = rw c.if-passed.false (omega arith, λ h. omega arith)
