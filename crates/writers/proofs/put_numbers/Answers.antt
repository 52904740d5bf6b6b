-- `writers::put_numbers` meets its contract. What is left is the numbers from place i on.
use Rattle.std.proofs.Common.{◌≡◌, arith, length, drop_of_length-le}
use Rattle.lists.specs.Writes.{filled-clip, fill_end}
use Rattle.writers.proofs.put_numbers.Goals as goal

pub returns : goal.returns
returns c = let ps = c.args.places.now in let l = c.loop-i in
    let all : l.i ≡ length ps = omega arith in
    rw all at (filled-clip _ _ _ _ _ l.i c.min-from.ensures (fill_end _ _ _ _ _ (rw (drop_of_length-le ps c.loop-i-test.false) at l.invariant)))
