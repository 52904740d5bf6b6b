-- `log_text::newest_sequence` meets its contract.
use Rattle.std.proofs.Common.{get_or-take, ◌-◌, ◌*◌, ◌<◌, ◌≡◌, arith}
use Rattle.log_text.proofs.newest_sequence.Goals as goal

pub returns-then-count-eq0 : goal.returns-then-count-eq0
returns-then-count-eq0 c = rw c.if-count-eq0.true

pub returns : goal.returns
returns c = let a = c.args in
    let n = a.count in
    let e : 14 * n - 14 ≡ 14 * (n - 1) = omega arith in
    let h : 14 * (n - 1) < 14 * n = omega arith in
    rw (e, get_or-take (14 * n) a.words.now (14 * (n - 1)) 0 h)
