-- `fits_cells::put_cell` meets its contract.
use Rattle.std.proofs.Common.{◌≡◌, ℕ, ◌/◌, ◌%◌, List, ap, ◌∙◌, arith, w64}
use Rattle.std.proofs.lemmas.List.Edits.{sets}
use Rattle.std.specs.Int.{to_be_bytes}
use Rattle.fits_cells.specs.Cells.{big_endian}
use Rattle.fits_cells.proofs.put_cell.Goals as goal

same : (w : ℕ) → to_be_bytes w64 w ≡ big_endian 8 w
unfolding big_endian
same w = let z : w / 1 % 256 ≡ w % 256 = omega arith in rw z

pub returns : goal.returns
returns c = c.put_bytes.ensures ∙ ap (λ (bytes : List ℕ). sets c.args.out.now c.args.at bytes) (c.to_be_bytes.ensures ∙ same _ ∙ ap (big_endian 8) c.stored.ensures)
