-- The cells of words, one at a time and in parts.
use Rattle.std.specs.Prelude.{◌≡◌, refl, ℕ, suc, ◌+◌, ◌*◌, ◌%◌, ◌≤◌, ◌<◌, List, [], ◌∷◌, ◌++◌, length, drop, get_or}
use Rattle.std.proofs.Common.{sym, arith, add-zero, append_assoc, length-append, drop_of_length-le, drop-cons}
use Rattle.std.proofs.Math.Numerals.{add-one}
use Rattle.decisions.specs.Decision.{decision_width}
use Rattle.columns.specs.Columns.{form_of}
use Rattle.fits_cells.specs.Cells.{cell}
use Rattle.fits_cells.specs.Cells.Stored.{cell-length}
use Rattle.fits.specs.Rows.{cells_from}

pub cells-length : (i : ℕ) (ws : List ℕ) → length (cells_from i ws) ≡ 8 * length ws
unfolding cells_from
cells-length i [] = refl
cells-length i (w ∷ ws) =
    omega (arith, length-append (cell (form_of (i % decision_width)) w) (cells_from (suc i) ws), cell-length (form_of (i % decision_width)) w, cells-length (suc i) ws)

module _ (ws : List ℕ) (i : ℕ) where
  pub cells-more : i < length ws → cells_from i (drop i ws) ≡ cell (form_of (i % decision_width)) (get_or ws i 0) ++ cells_from (i + 1) (drop (i + 1) ws)
  unfolding cells_from
  cells-more h = rw (drop-cons ws i 0 h, add-one i)

  pub cells-end : length ws ≤ i → cells_from i (drop i ws) ≡ []
  unfolding cells_from
  cells-end h = rw (drop_of_length-le ws {i = i} h)

pub cells-append : (i : ℕ) (vs ws : List ℕ) → cells_from i (vs ++ ws) ≡ cells_from i vs ++ cells_from (i + length vs) ws
unfolding cells_from
cells-append i [] ws = rw add-zero
cells-append i (v ∷ vs) ws =
    let e : i + suc (length vs) ≡ suc i + length vs = omega arith in
    rw (cells-append (suc i) vs ws, e) (sym (append_assoc (cell (form_of (i % decision_width)) v) (cells_from (suc i) vs) _))

-- every row begins with the first column
pub cells-again : (i j : ℕ) (ws : List ℕ) → i % decision_width ≡ j % decision_width → cells_from i ws ≡ cells_from j ws
unfolding cells_from
cells-again i j [] e = refl
cells-again i j (w ∷ ws) e =
    let f : suc i % decision_width ≡ suc j % decision_width = omega arith in
    rw (e, cells-again (suc i) (suc j) ws f)
