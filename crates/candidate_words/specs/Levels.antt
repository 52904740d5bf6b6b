-- What a level gives, a step at a time: one batch more, the moves that a batch holds, one entry more.
use Rattle.std.specs.Prelude.{◌≡◌, false, List, [], ◌∷◌, ◌++◌, ℕ, suc, ◌+◌, ◌-◌, ◌^◌, ◌≤◌, ◌<◌, min, length, take, drop}
use Rattle.std.proofs.Math.Numerals.{add-one}
use Rattle.std.proofs.Common.{arith, drop_of_length-le, drop-cons, lt-ltb, ltb-false}
use Rattle.records.specs.declared.tables.Table.{Table}
use Rattle.records.specs.declared.tables.Entry.{Entry}
use Rattle.records.specs.Tables.{entries_of, entry_at, no_entry}
use Rattle.lists.specs.Any.{any_at}
use Rattle.lists.specs.Records.{tabulate}
use Rattle.levels.specs.Levels.{places_of, by_key}
use Rattle.faults.specs.Tables.{level_out, levels_out}
use Rattle.offers.specs.declared.batches.Batch.{Batch}
use Rattle.offers.specs.Offers.{Holds, held_in}
use Rattle.writers.specs.Writers.{numbers_of, merged_of}
use Rattle.l0_words.specs.Words.{Offer, offer}
use Rattle.candidate_words.specs.Candidates.{batch_of, move_offers, level_offers, over_offers}

-- an over-budget level has a next one
pub level-low : (over : List ℕ) (i : ℕ) → levels_out over ≡ false → i < length (entries_of over) → (entry_at (entries_of over) i).level < 2 ^ 32
unfolding levels_out
level-low over i e h = omega (arith, ltb-false (2 ^ 32 - 2) (entry_at (entries_of over) i).level (any_at level_out no_entry (entries_of over) i e h))

pub tabulate-more : (f : ℕ → Offer) (most i : ℕ) → i < most → tabulate f (most - i) (i + 1) ≡ (f (i + 1) ∷ []) ++ tabulate f (most - (i + 1)) (i + 1 + 1)
unfolding tabulate
tabulate-more f most i h =
    let e : most - i ≡ suc (most - (i + 1)) = omega arith in
    rw (e, add-one (i + 1))

-- a batch of the first k places, of which there are so many, makes that candidate
pub batch-held : (ks : List ℕ) (ts : List Table) (level : ℕ) (next run : List ℕ) (b : Batch) (k : ℕ) → k ≤ 8 → Holds b (take (min 8 k) run) → batch_of ks ts level next run k ≡ offer 2 level k (merged_of ks ts next (held_in b))
unfolding batch_of
batch-held ks ts level next run b k h o =
    let e : min 8 k ≡ k = omega arith in
    let w = rw e at o in
    rw w.places

-- some moves make a candidate
pub moves-some : (ts : List Table) (level : ℕ) (ps : List ℕ) → 0 < length ps → move_offers ts level ps ≡ offer 3 level 0 (numbers_of ts ps) ∷ []
unfolding move_offers
moves-some ts level ps h = simp (lt-ltb _ _ h)

module _ (ks : List ℕ) (ts : List Table) (es : List Entry) (i : ℕ) where
  pub over-more : i < length es → over_offers ks ts (drop i es) ≡ level_offers ks ts (entry_at es i).level (places_of ((entry_at es i).level + 1) ts) (by_key ks ts (entry_at es i).level) ++ over_offers ks ts (drop (i + 1) es)
  unfolding over_offers
  over-more h = rw (drop-cons es i no_entry h, add-one i)

  pub over-end : length es ≤ i → over_offers ks ts (drop i es) ≡ []
  unfolding over_offers
  over-end h = rw (drop_of_length-le es h)
