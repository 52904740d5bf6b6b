-- `estimates::estimate_fault` meets its contract.
use Rattle.std.proofs.Common.{◌≡◌, refl, ◌≤◌, arith, length, Result, Ok, Err, OnOk}
use Rattle.std.proofs.lemmas.Result.{err_from_is_err_and}
use Rattle.refusals.specs.declared.Refusal.{Refusal}
use Rattle.refusals.specs.Codes.Same.{refused}
use Rattle.records.specs.Tables.{tables_of}
use Rattle.number_order.specs.Numbers.{repeats}
use Rattle.number_order.specs.Fits.{told-fits, ordered_front}
use Rattle.estimate_faults.specs.Faults.{estimate_input}
use Rattle.estimate_faults.specs.Steps.{words-stop, words-few, repeats-stop, values_give}
use Rattle.estimates.proofs.estimate_fault.Goals as goal

-- what holds in any case holds beside no refusal
at_any : {A : Type 0} (r : Result A Refusal) (P : Type 0) → P → OnOk r P
at_any (Ok _) P p = p
at_any (Err _) P p = tt

pub returns-in_err-words_fault-clause-refusal : goal.returns-in_err-words_fault-clause-refusal
returns-in_err-words_fault-clause-refusal c =
    let p = err_from_is_err_and c.from_residual.result c.from_residual.ensures.1 in rw (p.1, p.2) (words-stop _ _ c.in_err-words_fault.ensures (refused _))

-- words that pass are put in order
pub returns-then-order_tables-clause-refusal : goal.returns-then-order_tables-clause-refusal
returns-then-order_tables-clause-refusal c = let a = c.args in
    let k : length (tables_of a.tables.now) ≤ 1024 = words-few (estimate_input a.tables.now a.next a.over.now a.candidates.now a.numbers.now) a.room c.in_ok-words_fault.ensures refl in
    let told : c.order_tables.result ≡ repeats (tables_of a.tables.now) = told-fits _ (length a.order.now) c.order_tables.ensures.0 k (omega (arith, k, c.requires)) in
    repeats-stop _ _ c.in_ok-words_fault.ensures refl told c.if-order_tables.true

pub returns : goal.returns
returns c = let a = c.args in
    let k : length (tables_of a.tables.now) ≤ 1024 = words-few (estimate_input a.tables.now a.next a.over.now a.candidates.now a.numbers.now) a.room c.in_ok-words_fault.ensures refl in
    let told : c.order_tables.result ≡ repeats (tables_of a.tables.now) = told-fits _ (length a.order.now) c.order_tables.ensures.0 k (omega (arith, k, c.requires)) in
    record {
      refusal = values_give _ _ c.in_ok-words_fault.ensures refl told c.if-order_tables.false c.values_fault.ensures;
      fronted = at_any _ _ (ordered_front (tables_of a.tables.now) a.order.now k (omega (arith, k, c.requires)) c.order_tables.ensures.1);
    }
