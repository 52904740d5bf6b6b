-- L0 as a candidate, if there is any and it reaches the trigger. Definitions only.
use Rattle.std.specs.Prelude.{ℕ, cond, ◌&&◌, List, [], ◌∷◌, length, leb, ltb}
use Rattle.records.specs.declared.tables.Table.{Table}
use Rattle.records.specs.Tables.{tables_of}
use Rattle.faults.specs.Tables.{too_many_tables}
use Rattle.levels.specs.Levels.{places_of}
use Rattle.writers.specs.Writers.{merged_of}
use Rattle.l0_words.specs.Words.{Offer, offer}

unfoldable pub l0_offers : List ℕ → List Table → ℕ → List Offer
l0_offers ks ts trigger =
    cond (ltb 0 (length (places_of 0 ts)) && leb trigger (length (places_of 0 ts)))
    (offer 1 0 0 (merged_of ks ts (places_of 1 ts) (places_of 0 ts)) ∷ [])
    []

-- of lent words: none where tables are too many
unfoldable pub lent_l0 : List ℕ → List ℕ → ℕ → List Offer
lent_l0 tables keys trigger = cond (too_many_tables tables) [] (l0_offers keys (tables_of tables) trigger)
