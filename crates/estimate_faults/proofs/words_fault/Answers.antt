-- `estimate_faults::words_fault` meets its contract.
use Rattle.std.proofs.Common.{refl}
use Rattle.refusals.specs.Checks.{pass, stop}
use Rattle.estimate_faults.proofs.words_fault.Goals as goal

pub returns-then-too_many : goal.returns-then-too_many
returns-then-too_many c = stop 4 _ c.too_many.ensures c.if-too_many.true

pub returns-then-broken : goal.returns-then-broken
returns-then-broken c = pass 4 c.too_many.ensures c.if-too_many.false (stop 5 _ c.broken.ensures c.if-broken.true)

pub returns : goal.returns
returns c = pass 4 c.too_many.ensures c.if-too_many.false (pass 5 c.broken.ensures c.if-broken.false refl)
