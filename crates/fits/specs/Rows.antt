-- The table of so many words, fourteen to a row (7.3.3), behind its headers. Definitions only.
pub mod Steps
use Rattle.std.specs.Prelude.{ℕ, suc, ◌/◌, ◌%◌, List, [], ◌∷◌, ◌++◌, length}
use Rattle.decisions.specs.Decision.{decision_width}
use Rattle.columns.specs.Columns.{form_of}
use Rattle.fits_headers.specs.Cards.{blocks}
use Rattle.fits_headers.specs.Headers.{headers}
use Rattle.fits_cells.specs.Cells.{cell}

-- words from the i-th on, each in its column
unfoldable pub cells_from : ℕ → List ℕ → List ℕ
cells_from i [] = []
cells_from i (w ∷ ws) = cell (form_of (i % decision_width)) w ++ cells_from (suc i) ws

-- no words, no data block
unfoldable pub fits_of : List ℕ → List ℕ
fits_of ws = headers (length ws / decision_width) ++ blocks 0 (cells_from 0 ws)
