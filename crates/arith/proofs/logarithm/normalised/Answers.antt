-- `arith::logarithm::normalised` meets its contract.
use Rattle.std.proofs.Common.{◌≡◌, ℕ, ◌+◌, ◌-◌, ◌^◌, ◌<◌, ◌≤◌, ◌≢◌, refl, ap, ◌∙◌, arith}
use Rattle.std.specs.Float.Ieee.{Float, to_unsigned}
use Rattle.std.specs.Float.Ieee.Digits.{size-le}
use Rattle.arith.specs.Whole.{float_of, rounded_of}
use Rattle.arith.specs.Whole.Rounding.{size_gt, rounded_le}
use Rattle.arith.specs.Whole.Truncation.{back, back-top}
use Rattle.arith.specs.Logarithm.{top_of, big_of}
use Rattle.arith.specs.Logarithm.Top.{big_ge, big_lt, top-le}
use Rattle.arith.proofs.Normal.{left, right}
use Rattle.arith.proofs.logarithm.normalised.Goals as goal

-- v is what `truncate` makes of the age's float
is : (n v : ℕ) (x : Float) → v ≡ to_unsigned 64 x → x ≡ float_of n → v ≡ to_unsigned 64 (float_of n)
is n v x p e = p ∙ ap (to_unsigned 64) e

value : (n v : ℕ) (x : Float) → n < 2 ^ 64 → v ≡ to_unsigned 64 x → x ≡ float_of n → v ≢ 2 ^ 64 - 1 → (v ≡ rounded_of n) × (v < 2 ^ 64 - 1)
value n v x h p e ne = back n v h (is n v x p e) ne

pub returns-then-v : goal.returns-then-v
unfolding top_of
returns-then-v c = rw (back-top c.args.age _ c.ranges.age.fits (is c.args.age _ _ c.truncate-v.ensures c.of_u64.ensures) c.if-v.true) (refl, refl)

pub overflow_sub-k : goal.overflow_sub-k
overflow_sub-k c = omega (arith, c.size-k.ensures, size_gt (c.truncate-v.result + 1) 0 (omega arith))

pub overflow_shr-result : goal.overflow_shr-result
overflow_shr-result c =
    let v = value c.args.age _ _ c.ranges.age.fits c.truncate-v.ensures c.of_u64.ensures c.if-v.false in
    omega (arith, c.size-k.ensures, size-le (c.truncate-v.result + 1) 64 (omega (arith, v.1)))

-- what has these parts is in range
within : (n big k : ℕ) → n < 2 ^ 64 → (big ≡ big_of (rounded_of n + 1)) × (k ≡ top_of (rounded_of n + 1)) → (2 ^ 53 ≤ big) × (big < 2 ^ 54) × (k ≤ 64)
within n big k h e =
    let m = rounded_of n + 1 in
    omega (arith, e, big_ge m (omega arith), big_lt m (omega arith), top-le m 64 (omega (arith, rounded_le n h)))

pub returns-then-k-lt53 : goal.returns-then-k-lt53
returns-then-k-lt53 c =
    let v = value c.args.age _ _ c.ranges.age.fits c.truncate-v.ensures c.of_u64.ensures c.if-v.false in
    rw (← v.0) (left _ c.size-k.result c.size-k.ensures c.if-k-lt53.true)

pub invariant_of-result-then-k-lt53 : goal.invariant_of-result-then-k-lt53
invariant_of-result-then-k-lt53 c =
    let v = value c.args.age _ _ c.ranges.age.fits c.truncate-v.ensures c.of_u64.ensures c.if-v.false in
    record { in_range = within c.args.age _ _ c.ranges.age.fits (rw (← v.0) (left _ c.size-k.result c.size-k.ensures c.if-k-lt53.true)) }

pub returns : goal.returns
returns c =
    let v = value c.args.age _ _ c.ranges.age.fits c.truncate-v.ensures c.of_u64.ensures c.if-v.false in
    rw (← v.0) (right _ c.size-k.result c.size-k.ensures c.if-k-lt53.false)

pub invariant_of-result-2 : goal.invariant_of-result-2
invariant_of-result-2 c =
    let v = value c.args.age _ _ c.ranges.age.fits c.truncate-v.ensures c.of_u64.ensures c.if-v.false in
    record { in_range = within c.args.age _ _ c.ranges.age.fits (rw (← v.0) (right _ c.size-k.result c.size-k.ensures c.if-k-lt53.false)) }
