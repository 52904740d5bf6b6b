-- `arith::logarithm::ln_1p` meets its contract.
use Rattle.std.proofs.Common.{◌≡◌, ℕ, ◌+◌, ◌^◌, ◌<◌, ◌∙◌, le_of_lt, mul-one, arith, lit<, lit≤, le→leb}
use Rattle.std.specs.Float.{binary64}
use Rattle.std.specs.Float.Ieee.{in_float}
use Rattle.arith.specs.Whole.{float_of, rounded_of}
use Rattle.arith.specs.Whole.Rounding.{rounded_le, float_exact}
use Rattle.arith.specs.Whole.Values.{div_of_values}
use Rattle.arith.specs.Logarithm.{rule, top_of, big_of, units_of}
use Rattle.arith.specs.Logarithm.Top.{units_is, ln_is}
use Rattle.arith.specs.Logarithm.Value.{units_lt}
use Rattle.arith.proofs.logarithm.ln_1p.Goals as goal

-- the units r of the rule at what `normalised` gives
is : (m r big k : ℕ) → r ≡ rule big k → (big ≡ big_of m) × (k ≡ top_of m) → r ≡ units_of m
is m r big k e n = rw (units_is m, e, n.0, n.1)

small : (n r big k : ℕ) → n < 2 ^ 64 → r ≡ rule big k → (big ≡ big_of (rounded_of n + 1)) × (k ≡ top_of (rounded_of n + 1)) → r < 2 ^ 53
small n r big k h e s = rw (is (rounded_of n + 1) r big k e s) (units_lt _ (omega (arith, rounded_le n h)))

pub int_to_float-result : goal.int_to_float-result
unfolding in_float
int_to_float-result c = le→leb _ _ (le_of_lt (small c.args.age c.units.result _ _ c.ranges.age.fits c.units.ensures c.normalised.ensures))

pub returns : goal.returns
returns c =
    let r = c.units.result in
    div_of_values binary64 (float_of r) (float_of (2 ^ 44)) r 1 (2 ^ 44) 1 (lit< tt) (lit< tt) (float_exact r (le_of_lt (small c.args.age r _ _ c.ranges.age.fits c.units.ensures c.normalised.ensures))) (float_exact (2 ^ 44) (lit≤ tt))
    ∙ rw (mul-one r, is (rounded_of c.args.age + 1) r _ _ c.units.ensures c.normalised.ensures, ln_is _)
