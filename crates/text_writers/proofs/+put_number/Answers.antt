-- `text_writers::put_number` meets its contract.
use Rattle.std.proofs.Common.{refl, ◌+◌, ◌/◌, add-zero, arith}
use Rattle.lists.specs.Writes.{Filled}
use Rattle.numerals.specs.Numbers.Digits.{leading, leading-none, leading-some, spelt-within}
use Rattle.text_writers.specs.Steps.{filled_digit}
use Rattle.text_writers.proofs.+put_number.Goals as goal
use Rattle.text_writers.proofs.+put_number.Goals.{then-n-ge10, else-n-ge10}

pub overflow_add-result : goal.overflow_add-result
overflow_add-result t c = elim c.if-n-ge10.branch [
  | then-n-ge10 w ↦ omega (arith, w.put_number-i.ensures.ends, spelt-within (c.args.n / 10))
  | else-n-ge10 w ↦ omega arith
]

pub returns : goal.returns
returns t c =
    let front : Filled c.args.out.now c.args.at (leading c.args.n) c.if-n-ge10.out (c.args.at + c.if-n-ge10.i) = elim c.if-n-ge10.branch [
      | then-n-ge10 w ↦ rw (leading-some c.args.n w.if-n-ge10.true, w.out-is, w.i-is) w.put_number-i.ensures
      | else-n-ge10 w ↦ rw (leading-none c.args.n w.if-n-ge10.false, w.out-is, w.i-is, add-zero) (record { ends = omega arith; stands = refl })
    ] in
    filled_digit _ _ c.if-n-ge10.out _ c.if-n-ge10.i c.args.n c.ranges.n.fits c.put_byte.ensures front
