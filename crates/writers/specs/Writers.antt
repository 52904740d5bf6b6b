-- The numbers of the tables at some places, and of those of the next level that overlap them. Definitions only.
use Rattle.std.specs.Prelude.{ℕ, List, ◌++◌, map}
use Rattle.records.specs.declared.tables.Table.{Table}
use Rattle.records.specs.Tables.{table_at}
use Rattle.overlaps.specs.Overlaps.{overlapping_of}
use Rattle.ranges.specs.Ranges.{low_of, high_of}

abbrev pub numbers_of : List Table → List ℕ → List ℕ
numbers_of ts ps = map (λ p. (table_at ts p).number) ps

-- the numbers of some tables, then those of the next level's that meet the range from lo to hi
abbrev pub merged_in : List ℕ → List Table → List ℕ → List ℕ → List ℕ → List ℕ → List ℕ
merged_in ks ts lo hi next ps = numbers_of ts ps ++ numbers_of ts (overlapping_of ks ts lo hi next)

-- the same for the tables' own range
unfoldable pub merged_of : List ℕ → List Table → List ℕ → List ℕ → List ℕ
merged_of ks ts next ps = merged_in ks ts (low_of ks ts ps) (high_of ks ts ps) next ps
