-- `log_fields::line_of` meets its contract. The invariant: the fields before the column are numbers of their columns and stand among the words, and the others are left.
use Rattle.replay_text.specs.Lines.{fields_of}
use Rattle.replay_text.specs.Lines.Left.{fields_left}
use Rattle.log_fields.specs.Line.Pairs.{Reading}
use Rattle.log_fields.proofs.line_of.Given as goal

abbrev pub invariant-loop-column : goal.invariant-loop-column
invariant-loop-column l = Reading (fields_of l.line) (fields_left l.fields) l.word-items l.column
