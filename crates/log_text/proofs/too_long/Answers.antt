-- `log_text::too_long` meets its contract.
use Rattle.std.proofs.Common.{lt-ltb, le-ltb}
use Rattle.log_text.specs.Text.{too_long}
use Rattle.log_text.proofs.too_long.Goals as goal

pub returns-then-text-gt-MOST : goal.returns-then-text-gt-MOST
unfolding too_long
returns-then-text-gt-MOST c = rw (lt-ltb _ _ c.if-text-gt-MOST.true)

pub returns : goal.returns
unfolding too_long
returns c = rw (le-ltb _ _ c.if-text-gt-MOST.false, c.put_lines.ensures.0)
