-- Lent words as records: seven to a table, two to an over-budget entry; what is left over at the end is no record. Definitions only.
use Rattle.std.specs.Prelude.{ℕ, ◌≡◌, List, get_or, take, drop}
use Rattle.keys.specs.Parts.{Bytes, StartsAt}
use Rattle.records.specs.Words.{records_by}
use Rattle.records.specs.declared.tables.Table.{Table}
use Rattle.records.specs.declared.tables.Entry.{Entry}

-- a record by its words
abbrev pub table_by : (ℕ → ℕ) → Table
table_by f =
    record { number = f 0; level = f 1; size = f 2; first_start = f 3; first_len = f 4; last_start = f 5; last_len = f 6 }

abbrev pub entry_by : (ℕ → ℕ) → Entry
entry_by f = record { level = f 0; budget = f 1 }

unfoldable pub tables_of : List ℕ → List Table
tables_of = records_by 7 table_by

unfoldable pub entries_of : List ℕ → List Entry
entries_of = records_by 2 entry_by

-- a record of zeros, which stands past the last
abbrev pub no_table : Table
no_table = table_by (λ _. 0)

abbrev pub no_entry : Entry
no_entry = entry_by (λ _. 0)

-- the record at a place, counted from 0
abbrev pub table_at : List Table → ℕ → Table
table_at ts i = get_or ts i no_table

abbrev pub entry_at : List Entry → ℕ → Entry
entry_at es i = get_or es i no_entry

-- a table's keys, parts of the key bytes
unfoldable pub first_key : List ℕ → Table → List ℕ
first_key ks t = take t.first_len (drop t.first_start ks)

unfoldable pub last_key : List ℕ → Table → List ℕ
last_key ks t = take t.last_len (drop t.last_start ks)

-- those of the table at a place
abbrev pub first_at : List ℕ → List Table → ℕ → List ℕ
first_at ks ts p = first_key ks (table_at ts p)

abbrev pub last_at : List ℕ → List Table → ℕ → List ℕ
last_at ks ts p = last_key ks (table_at ts p)

-- r is a table's key: where it stands among the key bytes, and its bytes
abbrev pub IsFirstKey : Bytes → Table → Bytes → Type 0
IsFirstKey ks t r = StartsAt ks t.first_start r × (r.now ≡ first_key ks.now t)

abbrev pub IsLastKey : Bytes → Table → Bytes → Type 0
IsLastKey ks t r = StartsAt ks t.last_start r × (r.now ≡ last_key ks.now t)
