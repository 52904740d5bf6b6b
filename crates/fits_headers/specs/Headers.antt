-- The two headers: an empty primary one (4.4.1), and that of a binary table (7.3.1, 7.3.2) with so many rows. Definitions only.
pub mod Counted
use Rattle.std.specs.Prelude.{ℕ, suc, ◌^◌, List, [], ◌∷◌, ◌++◌}
use Rattle.fits_headers.specs.Cards.{Card, ◌is◌, numbered, T, whole, text, header}
use Rattle.columns.specs.Columns.{Form, D, K, Column, columns}

abbrev pub primary : List Card
primary = "SIMPLE" is T ∷ "BITPIX" is whole 8 ∷ "NAXIS" is whole 0 ∷ "EXTEND" is T ∷ []

-- TFORM, and TZERO where there is one
abbrev form_cards : ℕ → Form → List Card
form_cards i D = numbered "TFORM" i (text "1D") ∷ []
form_cards i K = numbered "TFORM" i (text "1K") ∷ numbered "TZERO" i (whole (2 ^ 63)) ∷ []

unfoldable pub column_cards : ℕ → List Column → List Card
column_cards i [] = []
column_cards i (c ∷ cs) = numbered "TTYPE" i (text c.name) ∷ form_cards i c.form ++ column_cards (suc i) cs

-- n rows of 14 columns of eight bytes
abbrev pub table : ℕ → List Card
table n =
    "XTENSION" is text "BINTABLE" ∷ "BITPIX" is whole 8 ∷ "NAXIS" is whole 2 ∷ "NAXIS1" is whole 112 ∷ "NAXIS2" is whole n
    ∷ "PCOUNT" is whole 0 ∷ "GCOUNT" is whole 1 ∷ "TFIELDS" is whole 14 ∷ column_cards 1 columns

unfoldable pub headers : ℕ → List ℕ
headers n = header primary ++ header (table n)
