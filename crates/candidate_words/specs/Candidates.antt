-- The candidates of a list of tables, as the Rust's `generate_candidates` has them, on lists: filter, stable sort, minimum by number, take. A table goes by its place in the list. Definitions only.
use Rattle.std.specs.Prelude.{ℕ, ◌+◌, min, cond, List, [], ◌∷◌, ◌++◌, length, take, drop, ltb}
use Rattle.records.specs.declared.tables.Table.{Table}
use Rattle.records.specs.declared.tables.Entry.{Entry}
use Rattle.records.specs.Tables.{tables_of, entries_of}
use Rattle.faults.specs.Tables.{past_limits}
use Rattle.lists.specs.Records.{tabulate}
use Rattle.levels.specs.Levels.{places_of, by_key}
use Rattle.offers.specs.Offers.{seed_of}
use Rattle.trivial_moves.specs.Moves.{moves_of}
use Rattle.writers.specs.Writers.{numbers_of, merged_of}
use Rattle.l0_words.specs.Words.{Offer, offer}
use Rattle.l0_words.specs.L0.{l0_offers}

-- ---- a level: batches of a run of places, the first of one table, each of one more, up to eight; then its moves

unfoldable pub batch_of : List ℕ → List Table → ℕ → List ℕ → List ℕ → ℕ → Offer
batch_of ks ts level next run k = offer 2 level k (merged_of ks ts next (take k run))

abbrev pub batches_of : List ℕ → List Table → ℕ → List ℕ → List ℕ → List Offer
batches_of ks ts level next run = tabulate (batch_of ks ts level next run) (min 8 (length run)) 1

unfoldable pub move_offers : List Table → ℕ → List ℕ → List Offer
move_offers ts level moves = cond (ltb 0 (length moves)) (offer 3 level 0 (numbers_of ts moves) ∷ []) []

-- a level with no table gives nothing
unfoldable pub level_offers : List ℕ → List Table → ℕ → List ℕ → List ℕ → List Offer
level_offers ks ts level next order =
    batches_of ks ts level next (drop (seed_of ts order) order) ++ move_offers ts level (moves_of ks ts next order)

-- ---- all: L0, then each over-budget level in order

unfoldable pub over_offers : List ℕ → List Table → List Entry → List Offer
over_offers ks ts [] = []
over_offers ks ts (e ∷ es) =
    level_offers ks ts e.level (places_of (e.level + 1) ts) (by_key ks ts e.level) ++ over_offers ks ts es

unfoldable pub offers_of : List ℕ → List Table → ℕ → List Entry → List Offer
offers_of ks ts trigger es = l0_offers ks ts trigger ++ over_offers ks ts es

-- ---- of lent words: none where tables or entries are too many, or a level has none below

unfoldable pub lent_offers : List ℕ → List ℕ → ℕ → List ℕ → List Offer
lent_offers tables keys trigger over =
    cond (past_limits tables over) [] (offers_of keys (tables_of tables) trigger (entries_of over))
