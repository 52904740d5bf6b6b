-- What is stored by form, and that a cell has eight bytes.
use Rattle.std.specs.Prelude.{◌≡◌, ℕ, zero, suc, ◌+◌, ◌%◌, ◌^◌, true, false, length, refl}
use Rattle.std.proofs.Common.{sym, ap, true≢false}
use Rattle.columns.specs.Columns.{Form, D, K, is_float}
use Rattle.fits_cells.specs.Cells.{stored_of, big_endian, cell}

pub stored_float : (f : Form) (w : ℕ) → is_float f ≡ true → stored_of f w ≡ w
unfolding stored_of
stored_float D w e = refl
stored_float K w e = absurd (true≢false (sym e))

pub stored_whole : (f : Form) (w : ℕ) → is_float f ≡ false → stored_of f w ≡ (w + 2 ^ 63) % 2 ^ 64
unfolding stored_of
stored_whole D w e = absurd (true≢false e)
stored_whole K w e = refl

big-length : (k w : ℕ) → length (big_endian k w) ≡ k
unfolding big_endian
big-length zero w = refl
big-length (suc k) w = ap suc (big-length k w)

pub cell-length : (f : Form) (w : ℕ) → length (cell f w) ≡ 8
cell-length f w = big-length 8 (stored_of f w)
