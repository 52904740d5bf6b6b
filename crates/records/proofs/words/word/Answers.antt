-- `records::words::word` meets its contract.
use Rattle.std.proofs.Common.{arith, lt-ltb, le-ltb}
use Rattle.records.specs.Words.{read_of, record_inside}
use Rattle.records.proofs.words.word.Goals as goal

pub returns-then-width-k : goal.returns-then-width-k
returns-then-width-k c = rw (le-ltb _ _ c.if-width-k.true)

pub returns-then-words-width : goal.returns-then-words-width
unfolding read_of
returns-then-words-width c = rw (lt-ltb _ _ c.if-width-k.false, le-ltb _ _ c.if-words-width.true)

pub returns : goal.returns
unfolding read_of
returns c = rw (lt-ltb _ _ c.if-width-k.false, lt-ltb _ _ c.if-words-width.false)

pub overflow_mul-result : goal.overflow_mul-result
overflow_mul-result c = omega (arith, record_inside c.args.words.now _ _ c.if-width-k.false c.if-words-width.false)

pub overflow_add-result : goal.overflow_add-result
overflow_add-result c = omega (arith, record_inside c.args.words.now _ _ c.if-width-k.false c.if-words-width.false)

pub offset_bounds-words-place : goal.offset_bounds-words-place
offset_bounds-words-place c = omega (arith, record_inside c.args.words.now _ _ c.if-width-k.false c.if-words-width.false)

pub bounds-words-place : goal.bounds-words-place
bounds-words-place c = omega (arith, record_inside c.args.words.now _ _ c.if-width-k.false c.if-words-width.false)
