-- `log_text::refused_lines` meets its contract. Of the part of no length nothing comes back.
use Rattle.std.proofs.Common.{◌≡◌, ap, [], ◌++◌, drop_of_length-le, arith}
use Rattle.refusals.specs.Written.{Written}
use Rattle.log_text.specs.Text.Steps.{reported, unreported}
use Rattle.log_text.proofs.refused_lines.Goals as goal

pub returns-then-out-length : goal.returns-then-out-length
returns-then-out-length c = let p = c.put_report-length in
    let a = c.args in
    let z : p.new.out ≡ [] = drop_of_length-le p.new.out {i = 0} (omega (arith, p.auto.out)) in
    let r = unreported a.text.now a.out.now (p.new.out ++ a.out.now) (omega (arith, p.ensures.ends)) (rw z) in
    record { refusal = ap (λ (w : Written). w.refusal) r.0; value = tt; out_after = r.1.0; counts = tt }

pub returns : goal.returns
returns c = let p = c.put_report-length in
    let a = c.args in
    let f = rw (drop_of_length-le p.new.out {i = 0} (omega (arith, p.auto.out))) at c.put_report.ensures in
    let r = reported a.text.now a.out.now c.put_report.new.out p.result (record { ends = p.ensures.ends; stands = f.stands }) (omega arith) in
    record { refusal = ap (λ (w : Written). w.refusal) r.0; value = ap (λ (w : Written). w.length) r.0; out_after = r.1.0; counts = r.1.1 }
