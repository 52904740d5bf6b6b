-- The first table with a number. Definitions only.
use Rattle.std.specs.Prelude.{ℕ, List, [], ◌∷◌, take, eqb, Option, Some, None}
use Rattle.lists.specs.Filter.{filter_of}
use Rattle.records.specs.declared.tables.Table.{Table}

-- the first table with a number, or none
unfoldable pub lookup : List Table → ℕ → List Table
lookup ts n = take 1 (filter_of (λ t. eqb t.number n) ts)

-- what is found, as a list
abbrev pub tables_in : Option Table → List Table
tables_in None = []
tables_in (Some t) = t ∷ []
