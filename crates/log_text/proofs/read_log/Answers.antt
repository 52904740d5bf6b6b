-- `log_text::read_log` meets its contract.
use Rattle.std.proofs.Common.{length, ◌*◌, ◌≤◌, sym, ap, arith}
use Rattle.log_text.specs.Text.{TextRead}
use Rattle.log_text.specs.Text.Steps.{is_readable, words-read, log-read}
use Rattle.log_text.proofs.read_log.Goals as goal

pub put_lines-count-requires : goal.put_lines-count-requires
put_lines-count-requires c = (is_readable _ _ (sym c.in_ok-read_fault.ensures)).bytes

pub newest_sequence-sequence-requires : goal.newest_sequence-sequence-requires
newest_sequence-sequence-requires c = let r = is_readable _ _ (sym c.in_ok-read_fault.ensures) in
    let h : 14 * c.put_lines-count.result ≤ length c.put_lines-count.new.words = omega (arith, r.lines, r.room, c.put_lines-count.ensures.0, c.put_lines-count.auto.words) in
    h

pub returns : goal.returns
returns c = let a = c.args in
    let e = sym c.in_ok-read_fault.ensures in
    let f = c.put_lines-count.ensures in
    let r = log-read a.text.now a.words.now _ _ e f.0 f.1 in record {
      refusal = ap (λ (r : TextRead). r.refusal) r;
      log = rw c.newest_sequence-sequence.ensures (ap (λ (r : TextRead). r.log) r);
      words_after = words-read _ _ _ _ e f.0 f.1;
    }
