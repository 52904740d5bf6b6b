-- `numerals::bits` meets its contract.
use Rattle.std.proofs.Common.{eq-eqb, ne_eqb, sym, ◌∙◌}
use Rattle.numerals.specs.Numbers.Reading.{bits_read}
use Rattle.numerals.proofs.bits.Goals as goal

pub returns-then-s-ne16 : goal.returns-then-s-ne16
returns-then-s-ne16 c = sym (bits_read c.args.s.now ∙ rw (ne_eqb _ _ c.if-s-ne16.true))

pub returns : goal.returns
returns c = sym (bits_read c.args.s.now ∙ rw (eq-eqb _ _ c.if-s-ne16.false, c.digits.ensures))
