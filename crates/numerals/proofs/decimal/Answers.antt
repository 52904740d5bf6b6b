-- `numerals::decimal` meets its contract.
use Rattle.std.proofs.Common.{eq-eqb, eqb-true, sym, ◌∙◌, ◌<◌, length, arith}
use Rattle.std.proofs.lemmas.Bool.{eqb-false}
use Rattle.numerals.specs.Numbers.Reading.{decimal-read, begun-none, begun_well, begun_more}
use Rattle.numerals.proofs.decimal.Goals as goal
use Rattle.numerals.proofs.decimal.Goals.{else-s-gt1-via-then-s-gt1+else-s-eq48, else-s-gt1-via-else-s-gt1}

pub returns-then-is_empty : goal.returns-then-is_empty
returns-then-is_empty c = let s = c.args.s.now in sym (decimal-read s ∙ rw (begun-none s (eqb-true _ _ (sym c.is_empty.ensures ∙ c.if-is_empty.true))))

pub returns-then-s-eq48 : goal.returns-then-s-eq48
returns-then-s-eq48 c = let s = c.args.s.now in sym (decimal-read s ∙ rw (begun_more s c.if-s-gt1.true, eq-eqb _ _ c.if-s-eq48.true))

pub returns : goal.returns
returns c = let s = c.args.s.now in
    let some : 0 < length s = omega (arith, eqb-false _ _ (sym c.is_empty.ensures ∙ c.if-is_empty.false)) in
    let w = begun_well s some (elim c.else-s-gt1.branch [
      | else-s-gt1-via-then-s-gt1+else-s-eq48 w ↦ λ _ e. w.if-s-eq48.false e
      | else-s-gt1-via-else-s-gt1 w ↦ λ h _. absurd (omega arith)
    ]) in
    sym (decimal-read s ∙ rw (w, c.digits.ensures))
