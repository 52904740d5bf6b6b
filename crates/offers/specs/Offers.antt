-- What a batch holds, and where in a level in key order batches start. Definitions only.
use Rattle.std.specs.Prelude.{ℕ, suc, ◌≡◌, cond, List, [], ◌∷◌, length, take, ltb}
use Rattle.records.specs.declared.tables.Table.{Table}
use Rattle.records.specs.Tables.{table_at}
use Rattle.offers.specs.declared.batches.Batch.{Batch}

-- the places that a batch holds
abbrev pub held_in : Batch → List ℕ
held_in b = take b.len b.places

pub record Holds (b : Batch) (ps : List ℕ) : Type 0 where
  pub count : b.len ≡ length ps
  pub places : held_in b ≡ ps

-- where in the order the smallest number stands, the earliest if it is repeated
unfoldable pub seed_from : List Table → ℕ → ℕ → ℕ → List ℕ → ℕ
seed_from ts i best at [] = at
seed_from ts i best at (p ∷ ps) =
    cond (ltb (table_at ts p).number best) (seed_from ts (suc i) (table_at ts p).number i ps) (seed_from ts (suc i) best at ps)

unfoldable pub seed_of : List Table → List ℕ → ℕ
seed_of ts [] = 0
seed_of ts (p ∷ ps) = seed_from ts 1 (table_at ts p).number 0 ps
