-- `replay_text::reader::end_before` meets its contract.
use Rattle.std.proofs.Common.{lt-ltb, le-ltb, eq-eqb, ne_eqb}
use Rattle.std.proofs.Math.Bool.{and-false}
use Rattle.replay_text.specs.Lines.{end_of}
use Rattle.replay_text.proofs.reader.end_before.Goals as goal
use Rattle.replay_text.proofs.reader.end_before.Goals.{else-at-stop-via-then-at-stop+else-text-stop-eq-CR, else-at-stop-via-else-at-stop}

pub returns-then-text-stop-eq-CR : goal.returns-then-text-stop-eq-CR
unfolding end_of
returns-then-text-stop-eq-CR c = simp (lt-ltb _ _ c.if-at-stop.true, eq-eqb _ _ c.if-text-stop-eq-CR.true)

pub returns : goal.returns
unfolding end_of
returns c = elim c.else-at-stop.branch [
  | else-at-stop-via-then-at-stop+else-text-stop-eq-CR w ↦ simp (ne_eqb _ _ w.if-text-stop-eq-CR.false, and-false)
  | else-at-stop-via-else-at-stop w ↦ simp (le-ltb _ _ w.if-at-stop.false)
]
