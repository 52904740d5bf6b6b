-- `keys::by_bytes` meets its contract: what is left of both keys has their order.
use Rattle.std.proofs.Common.{◌≡◌, drop}
use Rattle.keys.specs.Keys.{order_of}
use Rattle.keys.proofs.by_bytes.Given as goal

abbrev pub invariant-loop-i : goal.invariant-loop-i
invariant-loop-i l = order_of l.a l.b ≡ order_of (drop l.i l.a) (drop l.i l.b)
