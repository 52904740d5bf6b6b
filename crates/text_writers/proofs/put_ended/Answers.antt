-- `text_writers::put_ended` meets its contract.
use Rattle.std.proofs.Common.{arith}
use Rattle.numerals.specs.Numbers.Digits.{spelt-within}
use Rattle.lists.specs.Writes.{filled_put}
use Rattle.text_writers.proofs.put_ended.Goals as goal

pub overflow_add-result : goal.overflow_add-result
overflow_add-result c = omega (arith, c.put_number-i.ensures.ends, spelt-within c.args.n)

pub returns : goal.returns
returns c = filled_put _ _ _ _ _ _ _ c.put_number-i.ensures c.put_byte.ensures
