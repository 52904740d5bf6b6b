-- `replay_fields::line_of` meets its contract.
use Rattle.std.proofs.Common.{sym, ◌∙◌}
use Rattle.replay_text.specs.Lines.Left.{fields_left}
use Rattle.replay_fields.specs.Fields.Reading.{line_read}
use Rattle.replay_fields.proofs.line_of.Goals as goal

pub returns-then-is_some : goal.returns-then-is_some
returns-then-is_some c =
    sym (rw (← c.of-fields.ensures) (line_read _ _ (fields_left c.next.new.self) _ _ c.six_of-observation.ensures c.next.ensures.steps ∙ rw (sym c.is_some.ensures ∙ c.if-is_some.true)))

pub returns : goal.returns
returns c =
    sym (rw (← c.of-fields.ensures) (line_read _ _ (fields_left c.next.new.self) _ _ c.six_of-observation.ensures c.next.ensures.steps ∙ rw (sym c.is_some.ensures ∙ c.if-is_some.false)))
