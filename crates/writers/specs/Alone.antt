-- With no table in the next level a candidate's numbers are its own.
use Rattle.std.specs.Prelude.{◌≡◌, List, [], ◌∷◌, ℕ, length}
use Rattle.std.proofs.Common.{append-nil, arith}
use Rattle.lists.specs.Filter.{filter_of}
use Rattle.records.specs.declared.tables.Table.{Table}
use Rattle.writers.specs.Writers.{numbers_of, merged_of}

pub merged_alone : (ks : List ℕ) (ts : List Table) (next ps : List ℕ) → length next ≡ 0 → merged_of ks ts next ps ≡ numbers_of ts ps
unfolding merged_of filter_of
merged_alone ks ts [] ps e = append-nil (numbers_of ts ps)
merged_alone ks ts (p ∷ next) ps e = absurd (omega arith)
