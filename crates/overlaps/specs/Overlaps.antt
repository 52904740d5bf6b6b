-- Tables whose keys meet a range, both ends counted. Definitions only.
use Rattle.std.specs.Prelude.{ℕ, Bool, ◌&&◌, List}
use Rattle.records.specs.declared.tables.Table.{Table}
use Rattle.records.specs.Tables.{table_at, first_key, last_key}
use Rattle.keys.specs.Keys.{key_le}
use Rattle.lists.specs.Filter.{filter_of}

-- a table's keys meet the range from lo to hi
unfoldable pub overlaps : List ℕ → List ℕ → List ℕ → Table → Bool
overlaps ks lo hi t = key_le (first_key ks t) hi && key_le lo (last_key ks t)

abbrev pub meets : List ℕ → List Table → List ℕ → List ℕ → ℕ → Bool
meets ks ts lo hi p = overlaps ks lo hi (table_at ts p)

-- those of the places whose tables meet the range
abbrev pub overlapping_of : List ℕ → List Table → List ℕ → List ℕ → List ℕ → List ℕ
overlapping_of ks ts lo hi ps = filter_of (meets ks ts lo hi) ps
