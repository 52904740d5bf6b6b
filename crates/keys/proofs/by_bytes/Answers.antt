-- `keys::by_bytes` meets its contract.
use Rattle.std.proofs.Common.{sym, ◌∙◌, arith, lt-ltb, le-ltb}
use Rattle.keys.specs.KeySteps.{order-at, order-pass, order-long, order-short, order-end}
use Rattle.keys.proofs.by_bytes.Goals as goal

pub loop-i-init : goal.loop-i-init
loop-i-init c = c.requires.1

pub returns-then-b-i : goal.returns-then-b-i
returns-then-b-i c = sym (c.loop-i.invariant ∙ order-long _ _ _ c.loop-i-test.true c.if-b-i.true)

pub returns-then-x-y : goal.returns-then-x-y
returns-then-x-y c = sym (c.loop-i.invariant ∙ order-at _ _ _ c.loop-i-test.true c.if-b-i.false ∙ simp (lt-ltb _ _ c.if-x-y.true))

pub returns-then-y-x : goal.returns-then-y-x
returns-then-y-x c = sym (c.loop-i.invariant ∙ order-at _ _ _ c.loop-i-test.true c.if-b-i.false ∙ simp (le-ltb _ _ c.if-x-y.false, lt-ltb _ _ c.if-y-x.true))

pub loop-i-preserved : goal.loop-i-preserved
loop-i-preserved c = c.loop-i.invariant ∙ order-pass _ _ _ c.loop-i-test.true c.if-b-i.false c.if-x-y.false c.if-y-x.false

pub returns-then-a-b : goal.returns-then-a-b
returns-then-a-b c = sym (c.loop-i.invariant ∙ order-short _ _ _ c.loop-i-test.false (omega (arith, c.loop-i.auto.i-end, c.if-a-b.true)))

pub returns : goal.returns
returns c = sym (c.loop-i.invariant ∙ order-end _ _ _ c.loop-i-test.false (omega (arith, c.if-a-b.false, c.loop-i-test.false)))
