-- How much there can be: 1 + 9 candidates to an entry, each of six words and of at most 2,048 numbers.
use Rattle.std.specs.Prelude.{◌≡◌, refl, Bool, true, false, ◌&&◌, cond, ltb, take}
use Rattle.std.proofs.Common.{ap, length-append}
use mathlib.Core.List.{List, [], ◌∷◌, ◌++◌}
use Prim.Native.Nat.{ℕ, zero, suc, ◌+◌, ◌*◌, ◌≤◌, min}
use native.Mathlib.Omega.{arith}
use Rattle.std.proofs.Math.Dec.{leb}
use Rattle.std.proofs.Math.ListN.{length, drop, length-take, length-drop}
use borrow.Author.Tests.{ltb-false}
use Rattle.records.specs.declared.tables.Table.{Table}
use Rattle.records.specs.declared.tables.Entry.{Entry}
use Rattle.records.specs.Tables.{tables_of, entries_of}
use Rattle.lists.specs.Tests.{neither}
use Rattle.lists.specs.Filter.{places-small}
use Rattle.lists.specs.Records.{tabulate}
use Rattle.faults.specs.Tables.{levels_out, past_limits}
use Rattle.levels.specs.Levels.{at_level, places_of}
use Rattle.levels.specs.Bounds.{by_key-small}
use Rattle.offers.specs.Offers.{seed_of}
use Rattle.trivial_moves.specs.Moves.{moves_of}
use Rattle.trivial_moves.specs.Laws.{moves-small}
use Rattle.writers.specs.Steps.{numbers-length, merged_small}
use Rattle.l0_words.specs.Words.{Offer, words_from, numbers_in}
use Rattle.l0_words.specs.L0.{l0_offers, lent_l0}
use Rattle.l0_words.specs.Written.{start}
use Rattle.l0_words.specs.Laws.{l0-within}
use Rattle.candidate_words.specs.Candidates.{batch_of, move_offers, level_offers, over_offers, offers_of, lent_offers}
use Rattle.candidate_words.specs.Writing.{Fit, numbers-append}

pub words-length : (i : ℕ) (cs : List Offer) → length (words_from i cs) ≡ 6 * length cs
unfolding words_from
words-length i [] = refl
words-length i (c ∷ cs) = omega (arith, words-length (i + length c.numbers) cs)

-- at most n candidates, of 2,048 numbers each
pub record Bounded (n : ℕ) (cs : List Offer) : Type 0 where
  pub few : length cs ≤ n
  pub short : length (numbers_in cs) ≤ 2048 * n

bounded_append : (m n : ℕ) (a b : List Offer) → Bounded m a → Bounded n b → Bounded (m + n) (a ++ b)
bounded_append m n a b f g =
    record {
      few = omega (arith, f.few, g.few, length-append a b);
      short = omega (arith, f.short, g.short, ap length (numbers-append a b), length-append (numbers_in a) (numbers_in b));
    }

bounded_none : (n : ℕ) → Bounded n []
unfolding numbers_in
bounded_none n = record { few = omega arith; short = omega arith }

bounded_one : (c : Offer) → length c.numbers ≤ 2048 → Bounded 1 (c ∷ [])
unfolding numbers_in
bounded_one c h = record { few = omega arith; short = omega (arith, length-append c.numbers []) }

-- a candidate that may be there
bounded_test : (b : Bool) (c : Offer) → length c.numbers ≤ 2048 → Bounded 1 (cond b (c ∷ []) [])
bounded_test true c h = bounded_one c h
bounded_test false c h = bounded_none 1

module _ (ks : List ℕ) (ts : List Table) where
  batches_bounded : (level : ℕ) (next run : List ℕ) (n k : ℕ) → length next ≤ 1024 → length run ≤ 1024 → Bounded n (tabulate (batch_of ks ts level next run) n k)
  unfolding tabulate batch_of
  batches_bounded level next run zero k h r = bounded_none 0
  batches_bounded level next run (suc n) k h r =
      rw (suc_one n) (bounded_append 1 n _ _ (bounded_one (batch_of ks ts level next run k) (omega (arith, merged_small ks ts next (take k run), length-take k run))) (batches_bounded level next run n (suc k) h r))
    where
      suc_one : (n : ℕ) → suc n ≡ 1 + n
      suc_one n = omega arith

  level_bounded : (level : ℕ) (next order : List ℕ) → length next ≤ 1024 → length order ≤ 1024 → Bounded 9 (level_offers ks ts level next order)
  unfolding level_offers move_offers
  level_bounded level next order h k =
      let run : List ℕ = drop (seed_of ts order) order in
      let moves : List ℕ = moves_of ks ts next order in
      let few : Bounded (min 8 (length run) + 1) (level_offers ks ts level next order) =
      bounded_append (min 8 (length run)) 1 _ _ (batches_bounded level next run (min 8 (length run)) 1 h (omega (arith, length-drop (seed_of ts order) order)))
      (bounded_test (ltb 0 (length moves)) _ (omega (arith, numbers-length ts moves, moves-small ks ts next order)))
      in
      record { few = omega (arith, few.few); short = omega (arith, few.short) }

  module _ (few : length ts ≤ 1024) where
    places-few : (level : ℕ) → length (places_of level ts) ≤ 1024
    places-few level = omega (arith, places-small (at_level level ts) (length ts))

    over_bounded : (es : List Entry) → Bounded (9 * length es) (over_offers ks ts es)
    unfolding over_offers
    over_bounded [] = bounded_none 0
    over_bounded (e ∷ es) =
        let n : 9 * suc (length es) ≡ 9 + 9 * length es = omega arith in
        rw n (bounded_append 9 (9 * length es) _ _ (level_bounded e.level _ _ (places-few (e.level + 1)) (omega (arith, by_key-small ks ts e.level))) (over_bounded es))

    pub all_bounded : (trigger : ℕ) (es : List Entry) → Bounded (1 + 9 * length es) (offers_of ks ts trigger es)
    unfolding offers_of l0_offers
    all_bounded trigger es =
        let count : ℕ = length (places_of 0 ts) in
        bounded_append 1 (9 * length es) _ _ (bounded_test (ltb 0 count && leb trigger count) _ (omega (arith, merged_small ks ts (places_of 1 ts) (places_of 0 ts), places-few 1, places-few 0))) (over_bounded es)

    all_fit : (trigger : ℕ) (es : List Entry) → length es ≤ 16 → Fit start (offers_of ks ts trigger es)
    all_fit trigger es h =
        let all = all_bounded trigger es in
        record { words = omega (arith, all.few, words-length 0 (offers_of ks ts trigger es)); numbers = omega (arith, all.short) }

-- what the writers need of lent words that are within the limits
pub record Within (tables keys : List ℕ) (trigger : ℕ) (over : List ℕ) : Type 0 where
  pub few : length (tables_of tables) ≤ 1024
  pub low : levels_out over ≡ false
  pub all : lent_offers tables keys trigger over ≡ lent_l0 tables keys trigger ++ over_offers keys (tables_of tables) (entries_of over)
  pub fit : Fit start (lent_l0 tables keys trigger ++ over_offers keys (tables_of tables) (entries_of over))

module _ (tables keys : List ℕ) (trigger : ℕ) (over : List ℕ) where
  pub past : past_limits tables over ≡ true → lent_offers tables keys trigger over ≡ []
  unfolding lent_offers
  past e = simp e

  pub within : past_limits tables over ≡ false → Within tables keys trigger over
  unfolding lent_offers offers_of
  within e =
      let h = neither _ _ e in
      let many = neither _ _ h.0 in
      let few = ltb-false 1024 (length (tables_of tables)) many.0 in
      let l0 = l0-within tables keys trigger many.0 in
      record {
        few = few;
        low = h.1;
        all = simp (e, l0);
        fit = rw l0 (all_fit keys (tables_of tables) few trigger (entries_of over) (ltb-false 16 _ many.1));
      }
