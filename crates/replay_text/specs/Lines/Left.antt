-- What is still to come of a text's lines, and of a line's fields. Definitions only.
use Rattle.std.specs.Prelude.{Some, None, List, [], ℕ, drop}
use Rattle.replay_text.specs.declared.reader.Lines.{Lines}
use Rattle.replay_text.specs.declared.fields.Fields.{Fields}
use Rattle.replay_text.specs.Lines.{lines_of, fields_of}

abbrev pub lines_left : Lines → List (List ℕ)
lines_left l = lines_of (drop l.at l.text.now)

abbrev pub fields_left : Fields → List (List ℕ)
fields_left f = elim f.rest [ Some l ↦ fields_of l.now | None ↦ [] ]
