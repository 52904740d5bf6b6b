-- What is offered: of each kind the level and the batch length that belong to it, the level below as output, and at most 1,024 numbers.
use Rattle.std.specs.Prelude.{◌≡◌, refl, ◌&&◌, ltb, length, take, drop}
use Rattle.std.proofs.Common.{⊎_elim, arith, length-take, length-drop}
use mathlib.Core.List.Memᴰ
use mathlib.Core.List.{List, [], ◌∷◌, ◌++◌, Memᴰ}
use Prim.Native.Nat.{ℕ, ◌+◌, ◌≤◌, min}
use Rattle.std.proofs.Math.Dec.{leb}
use Rattle.lists.specs.Tests.{by-test}
use Rattle.lists.specs.Records.{tabulate, tabulate_in}
use Rattle.records.specs.declared.tables.Table.{Table}
use Rattle.records.specs.declared.tables.Entry.{Entry}
use Rattle.faults.specs.Limits.{max_tables, max_batch, max_over_level, max_numbers}
use Rattle.levels.specs.Levels.{places_of, by_key}
use Rattle.levels.specs.Bounds.{by_key-length, levels-apart}
use Rattle.offers.specs.Offers.{seed_of}
use Rattle.trivial_moves.specs.Moves.{moves_of}
use Rattle.trivial_moves.specs.Laws.{moves-small}
use Rattle.writers.specs.Steps.{numbers-length, merged_small}
use Rattle.l0_words.specs.Words.{Offer}
use Rattle.l0_words.specs.L0.{l0_offers}
use Rattle.candidate_words.specs.Candidates.{batch_of, move_offers, level_offers, over_offers, offers_of}

-- a kind with its level and its batch length
pub data Proper : ℕ → ℕ → ℕ → Type 0 where
  l0 : Proper 1 0 0
  batch : {level n : ℕ} → level ≤ max_over_level → 1 ≤ n → n ≤ max_batch → Proper 2 level n
  move : {level : ℕ} → level ≤ max_over_level → Proper 3 level 0

pub record Offered (o : Offer) : Type 0 where
  pub proper : Proper o.kind o.level o.batch_len
  pub below : o.output ≡ o.level + 1
  pub few : length o.numbers ≤ max_numbers

abbrev pub EachOffered : List Offer → Type 0
EachOffered os = (o : Offer) → Memᴰ o os → Offered o

each_append : (a b : List Offer) → EachOffered a → EachOffered b → EachOffered (a ++ b)
each_append a b f g o m = ⊎_elim (f o) (g o) (Memᴰ.append_cases a m)

each_none : EachOffered []
each_none o m = absurd (Memᴰ.not-nil m)

each-one : (o : Offer) → Offered o → EachOffered (o ∷ [])
each-one o h x m = rw (Memᴰ.eq_of_singleton m) h

module _ (ks : List ℕ) (ts : List Table) (small : length ts ≤ max_tables) where
  level-offered : (level : ℕ) → level ≤ max_over_level → EachOffered (level_offers ks ts level (places_of (level + 1) ts) (by_key ks ts level))
  unfolding level_offers batch_of move_offers
  level-offered level h =
      each_append _ _ batches
      (by-test EachOffered (ltb 0 (length moves)) _ _ (λ _. each-one _ (record { proper = move h; below = refl; few = omega (arith, numbers-length ts moves, moves-small ks ts next order) })) (λ _. each_none))
    where
      next : List ℕ
      next = places_of (level + 1) ts

      order : List ℕ
      order = by_key ks ts level

      moves : List ℕ
      moves = moves_of ks ts next order

      run : List ℕ
      run = drop (seed_of ts order) order

      batches : EachOffered (tabulate (batch_of ks ts level next run) (min 8 (length run)) 1)
      batches o m =
          let k = tabulate_in (batch_of ks ts level next run) (min 8 (length run)) 1 o m in
          rw k.3 (record {
            proper = batch h k.1 (omega (arith, k.2));
            below = refl;
            few = omega (arith, merged_small ks ts next (take k.0 run), length-take k.0 run, length-drop (seed_of ts order) order, by_key-length ks ts level, levels-apart ts level (level + 1) (λ e. omega arith));
          })

  over-offered : (es : List Entry) → ((e : Entry) → Memᴰ e es → e.level ≤ max_over_level) → EachOffered (over_offers ks ts es)
  unfolding over_offers
  over-offered [] low = each_none
  over-offered (e ∷ es) low = each_append _ _ (level-offered e.level (low e (Memᴰ.head refl))) (over-offered es (λ x m. low x (Memᴰ.tail m)))

  pub offered : (trigger : ℕ) (es : List Entry) → ((e : Entry) → Memᴰ e es → e.level ≤ max_over_level) → EachOffered (offers_of ks ts trigger es)
  unfolding offers_of l0_offers
  offered trigger es low =
      each_append _ _
      (by-test EachOffered (ltb 0 (length (places_of 0 ts)) && leb trigger (length (places_of 0 ts))) _ _
      (λ _. each-one _ (record { proper = l0; below = refl; few = omega (arith, merged_small ks ts (places_of 1 ts) (places_of 0 ts), levels-apart ts 0 1 (λ e. omega arith)) }))
      (λ _. each_none))
      (over-offered es low)
