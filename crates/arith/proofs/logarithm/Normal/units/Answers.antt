-- `arith::logarithm::Normal::units` meets its contract.
use Rattle.std.proofs.Common.{◌/◌, ◌%◌, ◌^◌, arith}
use Rattle.arith.specs.Logarithm.Top.{rule_is}
use Rattle.arith.specs.Logarithm.Mono.{cell-le}
use Rattle.arith.proofs.logarithm.Normal.units.Goals as goal

pub overflow_add-result : goal.overflow_add-result
overflow_add-result c = let b = c.args.self.big in omega (arith, c.entry.ensures, cell-le (b / 2 ^ 43) (b % 2 ^ 43) (omega arith) (omega arith) (omega arith))

pub overflow_add-result-2 : goal.overflow_add-result-2
overflow_add-result-2 c =
    let b = c.args.self.big in
    omega (arith, c.entry.ensures, c.remainder.ensures, cell-le (b / 2 ^ 43) (b % 2 ^ 43) (omega arith) (omega arith) (omega arith))

pub returns : goal.returns
returns c = omega (arith, rule_is c.args.self.big c.args.self.k, c.entry.ensures, c.remainder.ensures)
