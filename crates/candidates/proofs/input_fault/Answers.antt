-- `candidates::input_fault` meets its contract.
use Rattle.std.proofs.lemmas.Result.{err_from_is_err_and}
use Rattle.std.proofs.Common.{◌≡◌, refl, sym}
use Rattle.records.specs.Tables.{tables_of}
use Rattle.number_order.specs.Numbers.{max_ordered, repeats}
use Rattle.number_order.specs.Fits.{told-fits}
use Rattle.refusals.specs.Checks.{pass, stop, join_stop, join_pass}
use Rattle.refusals.specs.Codes.Same.{refused}
use Rattle.candidates.specs.Generate.{words_checks, later_checks, input_checks}
use Rattle.candidates.specs.Refusing.{words-few}
use Rattle.candidates.proofs.input_fault.Goals as goal

pub returns-in_err-words_fault : goal.returns-in_err-words_fault
unfolding input_checks
returns-in_err-words_fault c = let a = c.args in
    let p = err_from_is_err_and c.from_residual.result c.from_residual.ensures.1 in rw (p.1, p.2) (join_stop (words_checks a.tables.now a.keys.now a.over.now) (later_checks a.tables.now a.over.now) tt c.in_err-words_fault.ensures (refused _))

-- words that pass are few enough to be told of
pub returns-then-repeats : goal.returns-then-repeats
unfolding input_checks
returns-then-repeats c =
    let a = c.args in
    let few = words-few a.tables.now a.keys.now a.over.now (sym c.in_ok-words_fault.ensures) in
    let told : c.repeats.result ≡ repeats (tables_of a.tables.now) = told-fits _ max_ordered c.repeats.ensures few few in
    join_pass (words_checks a.tables.now a.keys.now a.over.now) (later_checks a.tables.now a.over.now) tt c.in_ok-words_fault.ensures refl (stop 11 _ told c.if-repeats.true)

pub returns-then-levels_out : goal.returns-then-levels_out
unfolding input_checks
returns-then-levels_out c =
    let a = c.args in
    let few = words-few a.tables.now a.keys.now a.over.now (sym c.in_ok-words_fault.ensures) in
    let told : c.repeats.result ≡ repeats (tables_of a.tables.now) = told-fits _ max_ordered c.repeats.ensures few few in
    join_pass (words_checks a.tables.now a.keys.now a.over.now) (later_checks a.tables.now a.over.now) tt c.in_ok-words_fault.ensures refl (pass 11 told c.if-repeats.false (stop 6 _ c.levels_out.ensures c.if-levels_out.true))

pub returns : goal.returns
unfolding input_checks
returns c =
    let a = c.args in
    let few = words-few a.tables.now a.keys.now a.over.now (sym c.in_ok-words_fault.ensures) in
    let told : c.repeats.result ≡ repeats (tables_of a.tables.now) = told-fits _ max_ordered c.repeats.ensures few few in
    join_pass (words_checks a.tables.now a.keys.now a.over.now) (later_checks a.tables.now a.over.now) tt c.in_ok-words_fault.ensures refl (pass 11 told c.if-repeats.false (pass 6 c.levels_out.ensures c.if-levels_out.false refl))
