-- `numerals::digits` meets its contract: what is left to read makes the same number from n on.
use Rattle.std.proofs.Common.{drop, ◌≡◌, ◌^◌, ◌<◌}
use Rattle.numerals.specs.Numbers.{number_from}
use Rattle.numerals.proofs.digits.Given as goal

abbrev pub invariant-loop-byte : goal.invariant-loop-byte
invariant-loop-byte l = (l.n < 2 ^ 64) × (number_from l.base 0 l.s ≡ number_from l.base l.n (drop l.byte-index l.s))
