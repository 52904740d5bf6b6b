-- `coinhamper::logged::coinhamper_write_fits` meets its contract.
use Rattle.coinhamper.proofs.Counted.{told}
use Rattle.coinhamper.proofs.logged.coinhamper_write_fits.Goals as goal

pub returns : goal.returns
returns c = let a = rw c.head_in.ensures at c.write_fits-answer.ensures in
    let t = told c.write_fits-answer.result _ _ c.args.written.now _ _ _ _ a.refusal a.value c.code.ensures c.unwrap_or.ensures (c.tell.ensures.value, c.tell.ensures.count_after) in
    record { value = t.0; written_after = t.1; out_after = a.out_after }
