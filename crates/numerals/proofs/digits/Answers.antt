-- `numerals::digits` meets its contract: what is left to read makes the same number from n on.
use Rattle.std.proofs.Common.{sym, ◌∙◌, get_or, arith}
use Rattle.numerals.specs.Numbers.Reading.{number-end, number_more, number_stray, number-over, digit_same, digit_stray}
use Rattle.numerals.proofs.digits.Goals as goal

pub returns-in_err-digit : goal.returns-in_err-digit
returns-in_err-digit c = let l = c.loop-byte in
    let d = digit_stray c.args.base _ c.requires.1 (rw c.from.ensures at c.in_err-digit.ensures.value) in
    c.from_residual.ensures ∙ sym (l.invariant.1 ∙ number_stray _ l.n _ l.byte-index c.loop-byte-test.true d)

pub returns-in_err-checked_mul : goal.returns-in_err-checked_mul
returns-in_err-checked_mul c = let l = c.loop-byte in
    let o = rw c.from-in-loop-byte.ensures at c.in_err-checked_mul.ensures in
    c.from_residual-in_err-checked_mul.ensures ∙ sym (l.invariant.1 ∙ number-over _ l.n _ l.byte-index (omega arith) c.loop-byte-test.true (omega (arith, o)))

pub returns-in_err-n : goal.returns-in_err-n
returns-in_err-n c = let l = c.loop-byte in
    let d = digit_same c.args.base (get_or c.args.s.now l.byte-index 0) c.requires.1 (rw c.from.ensures at c.in_ok-digit.ensures.value.0) in
    let v = rw c.from.ensures at c.in_ok-digit.ensures.value.1 in
    let m = rw c.from-in-loop-byte.ensures at c.in_ok-checked_mul.ensures.1 in
    let o = rw (c.from-in-loop-byte-2.ensures, v, ← d, m) at c.in_err-n.ensures in
    c.from_residual-in_err-n.ensures ∙ sym (l.invariant.1 ∙ number-over _ l.n _ l.byte-index (omega arith) c.loop-byte-test.true (omega (arith, o)))

pub loop-byte-preserved : goal.loop-byte-preserved
loop-byte-preserved c = let l = c.loop-byte in
    let e = rw c.from.ensures at c.in_ok-digit.ensures.value in
    let d = digit_same c.args.base (get_or c.args.s.now l.byte-index 0) c.requires.1 e.0 in
    let m = rw c.from-in-loop-byte.ensures at c.in_ok-checked_mul.ensures.1 in
    let n = rw (c.from-in-loop-byte-2.ensures, e.1, ← d, m) at c.in_ok-n.ensures in
    (omega arith, l.invariant.1 ∙ number_more _ l.n _ l.byte-index c.loop-byte-test.true (rw d e.0) ∙ rw n.1)

pub returns : goal.returns
returns c = let l = c.loop-byte in sym (l.invariant.1 ∙ number-end _ l.n _ l.byte-index (omega arith) l.invariant.0)
