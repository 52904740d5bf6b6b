-- `log_fields::number_in` meets its contract.
use Rattle.std.proofs.Common.{sym, ◌∙◌}
use Rattle.log_fields.specs.Line.Pairs.{float_number, decimal-number}
use Rattle.log_fields.proofs.number_in.Goals as goal

pub returns-then-is_float : goal.returns-then-is_float
returns-then-is_float c = c.bits.ensures ∙ sym (float_number _ _ (sym c.is_float.ensures ∙ c.if-is_float.true))

pub returns : goal.returns
returns c = c.decimal.ensures ∙ sym (decimal-number _ _ (sym c.is_float.ensures ∙ c.if-is_float.false))
