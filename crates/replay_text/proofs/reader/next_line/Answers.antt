-- `replay_text::reader::next_line` meets its contract.
use Rattle.std.proofs.Common.{le-leb}
use Rattle.replay_text.specs.Lines.{line_at_of}
use borrow.Author.Tests.{lt-leb}
use Rattle.replay_text.proofs.reader.next_line.Goals as goal

pub returns-then-text-at : goal.returns-then-text-at
unfolding line_at_of
returns-then-text-at c = simp (le-leb _ _ c.if-text-at.true)

pub returns-then-text-stop : goal.returns-then-text-stop
unfolding line_at_of
returns-then-text-stop c = simp (lt-leb _ _ c.if-text-at.false, ← c.find-stop.ensures.value, le-leb _ _ c.if-text-stop.true)

pub returns : goal.returns
unfolding line_at_of
returns c = simp (lt-leb _ _ c.if-text-at.false, ← c.find-stop.ensures.value, lt-leb _ _ c.if-text-stop.false, c.end_before.ensures)
