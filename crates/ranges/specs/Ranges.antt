-- The range of some tables: the smallest first key and the largest last key of those at some places. Definitions only.
use Rattle.std.specs.Prelude.{ℕ, List, [], ◌∷◌}
use Rattle.records.specs.declared.tables.Table.{Table}
use Rattle.records.specs.Tables.{first_at, last_at}
use Rattle.keys.specs.Keys.{lesser_of, greater_of}

-- one end of the range: of two keys `pick` takes one, and `key` is the key at a place
unfoldable pub end_from : (List ℕ → List ℕ → List ℕ) → (ℕ → List ℕ) → List ℕ → List ℕ → List ℕ
end_from pick key best [] = best
end_from pick key best (p ∷ ps) = end_from pick key (pick best (key p)) ps

unfoldable pub end_of : (List ℕ → List ℕ → List ℕ) → (ℕ → List ℕ) → List ℕ → List ℕ
end_of pick key [] = []
end_of pick key (p ∷ ps) = end_from pick key (key p) ps

abbrev pub low_of : List ℕ → List Table → List ℕ → List ℕ
low_of ks ts ps = end_of lesser_of (first_at ks ts) ps

abbrev pub high_of : List ℕ → List Table → List ℕ → List ℕ
high_of ks ts ps = end_of greater_of (last_at ks ts) ps
