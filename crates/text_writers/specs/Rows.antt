-- Numbers in a row, written as text. Definitions only.
use Rattle.std.specs.Prelude.{ℕ, cond, List, [], ◌∷◌, ◌++◌, eqb, length}
use Rattle.numerals.specs.Numbers.{spelt}

-- the byte behind a number, by how many numbers follow it
abbrev pub behind : ℕ → ℕ → ℕ → ℕ
behind between last left = cond (eqb left 0) last between

-- numbers with a byte between each two, and another behind the last
unfoldable pub row_of : ℕ → ℕ → List ℕ → List ℕ
row_of between last [] = []
row_of between last (n ∷ ns) = spelt n ++ behind between last (length ns) ∷ row_of between last ns
