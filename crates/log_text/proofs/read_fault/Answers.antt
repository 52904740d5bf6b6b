-- `log_text::read_fault` meets its contract.
use Rattle.std.proofs.Common.{length, refl, sym, ◌∙◌, ◌≤◌, ◌<◌, lt-ltb, le-ltb, arith}
use Rattle.log_text.specs.Text.{read_fault, bad_from}
use Rattle.log_text.specs.Text.Steps.{long-within, bad_any}
use Rattle.replay_text.specs.Lines.{lines_of}
use Rattle.refusals.specs.Refusals.{too_many, bad_record, bad_log}
use Rattle.refusals.specs.Checks.{pass, stop}
use Rattle.log_text.proofs.read_fault.Goals as goal

pub returns-then-log_bad : goal.returns-then-log_bad
unfolding read_fault
returns-then-log_bad c = stop bad_log _ (rw c.empty.ensures at c.log_bad.ensures) c.if-log_bad.true

pub returns-then-too_long : goal.returns-then-too_long
unfolding read_fault
returns-then-too_long c = pass bad_log (rw c.empty.ensures at c.log_bad.ensures) c.if-log_bad.false (stop too_many _ c.too_long.ensures c.if-too_long.true)

pub put_bad-requires : goal.put_bad-requires
put_bad-requires c = (long-within _ (sym c.too_long.ensures ∙ c.if-too_long.false)).0

pub returns-then-put_bad-ne0 : goal.returns-then-put_bad-ne0
unfolding read_fault
returns-then-put_bad-ne0 c = let ls = lines_of c.args.text.now in
    let h : 0 < length (bad_from 1 ls) = omega (arith, c.put_bad.ensures.ends) in
    pass bad_log (rw c.empty.ensures at c.log_bad.ensures) c.if-log_bad.false (pass too_many c.too_long.ensures c.if-too_long.false (stop bad_record _ (sym (bad_any 1 ls)) (lt-ltb 0 _ h)))

pub returns : goal.returns
unfolding read_fault
returns c = let ls = lines_of c.args.text.now in
    let h : length (bad_from 1 ls) ≤ 0 = omega (arith, c.put_bad.ensures.ends) in
    pass bad_log (rw c.empty.ensures at c.log_bad.ensures) c.if-log_bad.false (pass too_many c.too_long.ensures c.if-too_long.false (pass bad_record (sym (bad_any 1 ls)) (le-ltb 0 _ h) refl))
