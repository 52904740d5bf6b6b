-- What makes tables and over-budget entries bad. Definitions only.
use Rattle.std.specs.Prelude.{ℕ, ◌+◌, ◌%◌, Bool, not, ◌||◌, List, length, ltb, eqb}
use Rattle.lists.specs.Any.{any_of}
use Rattle.records.specs.declared.tables.Table.{Table}
use Rattle.records.specs.declared.tables.Entry.{Entry}
use Rattle.records.specs.Tables.{tables_of, entries_of}
use Rattle.faults.specs.Limits.{max_tables, max_over_budget, max_level, max_over_level, max_size}

-- 4: only whole records are counted
abbrev pub too_many_tables : List ℕ → Bool
too_many_tables ws = ltb max_tables (length (tables_of ws))

abbrev pub too_many_entries : List ℕ → Bool
too_many_entries ws = ltb max_over_budget (length (entries_of ws))

-- a part that reaches past the end of n, over whole numbers
abbrev pub part_out : ℕ → ℕ → ℕ → Bool
part_out n start len = ltb n (start + len)

abbrev pub table_broken : Table → Bool
table_broken t = ltb max_level t.level || ltb max_size t.size

abbrev pub keys_broken : ℕ → Table → Bool
keys_broken n t = part_out n t.first_start t.first_len || part_out n t.last_start t.last_len

-- 5: whole records, levels and sizes
unfoldable pub broken_tables : List ℕ → Bool
broken_tables ws = not (eqb (length ws % 7) 0) || any_of table_broken (tables_of ws)

-- 5: key parts within the n key bytes
unfoldable pub broken_keys : ℕ → List ℕ → Bool
broken_keys n ws = any_of (keys_broken n) (tables_of ws)

-- 5: whole entries
abbrev pub broken_entries : List ℕ → Bool
broken_entries ws = not (eqb (length ws % 2) 0)

-- 6
abbrev pub level_out : Entry → Bool
level_out e = ltb max_over_level e.level

unfoldable pub levels_out : List ℕ → Bool
levels_out ws = any_of level_out (entries_of ws)

-- past what can be offered of: 4 or 6
abbrev pub past_limits : List ℕ → List ℕ → Bool
past_limits tables over = (too_many_tables tables || too_many_entries over) || levels_out over
