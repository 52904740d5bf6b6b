-- `modes::ended` meets its contract.
use Rattle.std.proofs.Common.{le-leb}
use borrow.Author.Tests.{lt-leb}
use Rattle.modes.proofs.ended.Goals as goal

pub returns-then-n-window : goal.returns-then-n-window
returns-then-n-window c = simp (le-leb _ _ c.if-n-window.true, c.switch_to.ensures)

pub returns : goal.returns
returns c = simp (lt-leb _ _ c.if-n-window.false)
