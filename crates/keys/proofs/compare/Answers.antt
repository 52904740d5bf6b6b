-- `keys::compare` meets its contract: first or second bytes that differ decide, and the lengths where a key ends before.
use Rattle.std.proofs.Common.{sym, ◌∙◌, arith, lt-ltb, le-ltb}
use Rattle.keys.specs.KeySteps.{order-at, order-pass, order-lengths}
use Rattle.keys.proofs.compare.Goals as goal

pub returns-then-a-lt1 : goal.returns-then-a-lt1
returns-then-a-lt1 c = c.by_length.ensures ∙ sym (order-lengths _ _ 0 (omega (arith)) (omega (arith)) c.then-a-lt1.either)

pub returns-then-a-lt2 : goal.returns-then-a-lt2
returns-then-a-lt2 c =
    let a = c.args.a.now in
    let b = c.args.b.now in
    c.by_length-then-a-lt2.ensures ∙ sym (order-pass a b 0 c.if-a-lt1.false c.if-b-lt1.false c.if-x-y.false c.if-y-x.false ∙ order-lengths a b 1 c.if-a-lt1.false c.if-b-lt1.false c.then-a-lt2.either)

pub returns-then-x-y : goal.returns-then-x-y
returns-then-x-y c = sym (order-at _ _ 0 c.if-a-lt1.false c.if-b-lt1.false ∙ simp (lt-ltb _ _ c.if-x-y.true))

pub returns-then-y-x : goal.returns-then-y-x
returns-then-y-x c = sym (order-at _ _ 0 c.if-a-lt1.false c.if-b-lt1.false ∙ simp (le-ltb _ _ c.if-x-y.false, lt-ltb _ _ c.if-y-x.true))

pub returns-then-v-w : goal.returns-then-v-w
returns-then-v-w c =
    let a = c.args.a.now in
    let b = c.args.b.now in
    sym (order-pass a b 0 c.if-a-lt1.false c.if-b-lt1.false c.if-x-y.false c.if-y-x.false ∙ order-at a b 1 c.if-a-lt2.false c.if-b-lt2.false ∙ simp (lt-ltb _ _ c.if-v-w.true))

pub returns-then-w-v : goal.returns-then-w-v
returns-then-w-v c =
    let a = c.args.a.now in
    let b = c.args.b.now in
    sym (order-pass a b 0 c.if-a-lt1.false c.if-b-lt1.false c.if-x-y.false c.if-y-x.false ∙ order-at a b 1 c.if-a-lt2.false c.if-b-lt2.false ∙ simp (le-ltb _ _ c.if-v-w.false, lt-ltb _ _ c.if-w-v.true))

pub by_groups-requires : goal.by_groups-requires
by_groups-requires c =
    let a = c.args.a.now in
    let b = c.args.b.now in
    (c.if-a-lt2.false, order-pass a b 0 c.if-a-lt1.false c.if-b-lt1.false c.if-x-y.false c.if-y-x.false ∙ order-pass a b 1 c.if-a-lt2.false c.if-b-lt2.false c.if-v-w.false c.if-w-v.false)
