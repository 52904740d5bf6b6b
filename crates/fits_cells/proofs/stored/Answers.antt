-- `fits_cells::stored` meets its contract.
use Rattle.std.proofs.Common.{sym, ◌∙◌}
use Rattle.fits_cells.specs.Cells.Stored.{stored_float, stored_whole}
use Rattle.fits_cells.proofs.stored.Goals as goal

pub returns-then-is_float : goal.returns-then-is_float
returns-then-is_float c = sym (stored_float _ _ (sym c.is_float.ensures ∙ c.if-is_float.true))

pub returns : goal.returns
returns c = sym (stored_whole _ _ (sym c.is_float.ensures ∙ c.if-is_float.false))
