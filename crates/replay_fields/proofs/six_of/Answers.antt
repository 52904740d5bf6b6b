-- `replay_fields::six_of` meets its contract.
use Rattle.replay_text.specs.Lines.Left.{fields_left}
use Rattle.numerals.specs.Numbers.{decimal_of, bits_of}
use Rattle.replay_fields.specs.Fields.Reading.{took, six_read}
use Rattle.replay_fields.proofs.six_of.Goals as goal

pub returns : goal.returns
returns c =
    rw c.observed.ensures
    (six_read (took decimal_of _ (fields_left c.next.new.self) _ _ c.next.ensures.steps c.and_then-clock.ensures)
    (took decimal_of _ (fields_left c.next-2.new.self) _ _ c.next-2.ensures.steps c.and_then-l0.ensures)
    (took decimal_of _ (fields_left c.next-3.new.self) _ _ c.next-3.ensures.steps c.and_then-trigger.ensures)
    (took bits_of _ (fields_left c.next-4.new.self) _ _ c.next-4.ensures.steps c.and_then-ratio.ensures)
    (took bits_of _ (fields_left c.next-5.new.self) _ _ c.next-5.ensures.steps c.and_then-probes.ensures)
    (took decimal_of _ (fields_left c.next-6.new.self) _ _ c.next-6.ensures.steps c.and_then-backlog.ensures))
