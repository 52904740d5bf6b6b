-- `text_writers::put_row` meets its contract. What is left is the numbers from place i on.
use Rattle.std.proofs.Common.{◌≡◌, ◌+◌, ◌-◌, add_assoc, arith, length, take, length-take, drop_of_length-le}
use Rattle.std.proofs.lemmas.List.{take_min}
use Rattle.lists.specs.Writes.{filled-clip, fill-part, fill_end}
use Rattle.text_writers.specs.Rows.{row_of}
use Rattle.text_writers.specs.Steps.{ended-few, row_more}
use Rattle.text_writers.proofs.put_row.Goals as goal

pub overflow_add-n : goal.overflow_add-n
overflow_add-n c = omega (arith, length-take c.min.result c.args.numbers.now, c.min.ensures, ended-few _ _ _ _ _ _ c.put_ended-n.ensures)

pub loop-i-preserved : goal.loop-i-preserved
loop-i-preserved c = let l = c.loop-i in
    let a = c.args in
    let ns = take c.min.result a.numbers.now in
    let e = row_more a.between a.last ns l.i c.loop-i-test.true in
    let k : length ns - 1 - l.i ≡ length ns - (l.i + 1) = omega arith in (
      omega (arith, ended-few _ _ _ _ _ _ c.put_ended-n.ensures),
      rw (← add_assoc) (fill-part _ _ _ _ _ _ _ _ _ (rw (e, ← k, ← c.byte_behind-byte.ensures) at l.invariant.1) c.put_ended-n.ensures),
    )

pub returns : goal.returns
unfolding row_of
returns c = let l = c.loop-i in
    let w : take c.min.result c.args.numbers.now ≡ take 1024 c.args.numbers.now = rw c.min.ensures (take_min 1024 c.args.numbers.now) in
    filled-clip _ _ _ _ _ l.n c.min-from.ensures (fill_end _ _ _ _ _ (rw (drop_of_length-le (take c.min.result c.args.numbers.now) c.loop-i-test.false, w) at l.invariant.1))
