-- A word as the eight bytes of its column's form. Definitions only.
pub mod Stored
use Rattle.std.specs.Prelude.{ℕ, zero, suc, ◌+◌, ◌/◌, ◌%◌, ◌^◌, List, [], ◌∷◌}
use Rattle.columns.specs.Columns.{Form, D, K}

-- a float's bits as they are (5.3); a word without a sign less TZERO, 2^63, modulo 2^64 (5.2.5, 7.3.2)
unfoldable pub stored_of : Form → ℕ → ℕ
stored_of D w = w
stored_of K w = (w + 2 ^ 63) % 2 ^ 64

-- the last k bytes, the highest first (5.2)
unfoldable pub big_endian : ℕ → ℕ → List ℕ
big_endian zero w = []
big_endian (suc k) w = (w / 256 ^ k % 256) ∷ big_endian k w

abbrev pub cell : Form → ℕ → List ℕ
cell f w = big_endian 8 (stored_of f w)
