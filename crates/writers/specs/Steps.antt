-- The numbers from a place on, and how many there are.
use Rattle.std.specs.Prelude.{◌≡◌, List, ◌∷◌, ℕ, ◌+◌, ◌≤◌, ◌<◌, length, drop, get_or}
use Rattle.std.proofs.Common.{add-one, arith, length-append, drop-cons}
use Rattle.std.proofs.lemmas.List.{length-map}
use Rattle.records.specs.declared.tables.Table.{Table}
use Rattle.records.specs.Tables.{table_at}
use Rattle.lists.specs.Filter.{filter_of, filter-small}
use Rattle.overlaps.specs.Overlaps.{meets}
use Rattle.ranges.specs.Ranges.{low_of, high_of}
use Rattle.writers.specs.Writers.{numbers_of, merged_of}

pub numbers_more : (ts : List Table) (ps : List ℕ) (i : ℕ) → i < length ps → numbers_of ts (drop i ps) ≡ (table_at ts (get_or ps i 0)).number ∷ numbers_of ts (drop (i + 1) ps)
numbers_more ts ps i h = rw (drop-cons ps i 0 h, add-one)

pub numbers-length : (ts : List Table) (ps : List ℕ) → length (numbers_of ts ps) ≡ length ps
numbers-length ts ps = length-map ps (λ p. (table_at ts p).number)

pub merged_small : (ks : List ℕ) (ts : List Table) (next ps : List ℕ) → length (merged_of ks ts next ps) ≤ length ps + length next
unfolding merged_of
merged_small ks ts next ps =
    let met : List ℕ = filter_of (meets ks ts (low_of ks ts ps) (high_of ks ts ps)) next in
    omega (arith, length-append (numbers_of ts ps) (numbers_of ts met), numbers-length ts ps, numbers-length ts met, filter-small (meets ks ts (low_of ks ts ps) (high_of ks ts ps)) next)
