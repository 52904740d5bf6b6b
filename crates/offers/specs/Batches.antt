-- Where batches start, place by place, and what a batch holds.
use Rattle.std.specs.Prelude.{◌≡◌, refl, Bool, true, false, cond, List, [], ◌∷◌, ℕ, suc, ◌+◌, ◌≤◌, min, ◌<◌, ltb, length, take, drop, get_or}
use Rattle.std.proofs.Common.{sym, add-one, arith, length-take, drop_of_length-le, drop-cons}
use Rattle.std.proofs.lemmas.List.{take_min as front_min}
use Rattle.records.specs.declared.tables.Table.{Table}
use Rattle.records.specs.Tables.{table_at}
use Rattle.offers.specs.declared.batches.Batch.{Batch}
use Rattle.offers.specs.Offers.{seed_from, seed_of, held_in}

seed_from_lem : (ts : List Table) (i best at : ℕ) (ps : List ℕ) → at ≤ i → seed_from ts i best at ps ≤ i + length ps
unfolding seed_from
seed_from_lem ts i best at [] h = omega arith
seed_from_lem ts i best at (p ∷ ps) h =
    by-test (ltb (table_at ts p).number best) _ _ (seed_from_lem ts (suc i) (table_at ts p).number i ps (omega arith)) (seed_from_lem ts (suc i) best at ps (omega arith))
  where
    by-test : (b : Bool) (x y : ℕ) → x ≤ suc i + length ps → y ≤ suc i + length ps → cond b x y ≤ i + suc (length ps)
    by-test true x y f g = omega arith
    by-test false x y f g = omega arith

pub seed_small : (ts : List Table) (ps : List ℕ) → seed_of ts ps ≤ length ps
unfolding seed_of
seed_small ts [] = omega arith
seed_small ts (p ∷ ps) = omega (arith, seed_from_lem ts 1 (table_at ts p).number 0 ps (omega arith))

module _ (ts : List Table) (ps : List ℕ) (i : ℕ) where
  pub seed_more : (best at : ℕ) → i < length ps → seed_from ts i best at (drop i ps) ≡ cond (ltb (table_at ts (get_or ps i 0)).number best) (seed_from ts (i + 1) (table_at ts (get_or ps i 0)).number i (drop (i + 1) ps)) (seed_from ts (i + 1) best at (drop (i + 1) ps))
  unfolding seed_from
  seed_more best at h = rw (drop-cons ps i 0 h, add-one)

  pub seed_end : (best at : ℕ) → length ps ≤ i → seed_from ts i best at (drop i ps) ≡ at
  unfolding seed_from
  seed_end best at h = rw (drop_of_length-le ps h)

pub seed_none : (ts : List Table) (ps : List ℕ) → length ps ≡ 0 → seed_of ts ps ≡ 0
unfolding seed_of
seed_none ts [] e = refl
seed_none ts (p ∷ ps) e = absurd (omega arith)

pub seed_some : (ts : List Table) (ps : List ℕ) → 0 < length ps → seed_of ts ps ≡ seed_from ts 1 (table_at ts (get_or ps 0 0)).number 0 (drop 1 ps)
unfolding seed_of
seed_some ts [] h = absurd (omega arith)
seed_some ts (p ∷ ps) h = refl

-- the first n, or all where there are fewer
pub take_min : (n : ℕ) (l : List ℕ) → take (min n (length l)) l ≡ take n l
take_min n l = front_min n l

pub take_count : (n : ℕ) (l : List ℕ) → min n (length l) ≡ length (take n l)
take_count n l = sym (length-take n l)

-- a batch's length that says more than eight means eight
pub take-held : (b : Batch) (n : ℕ) → length b.places ≡ 8 → n ≡ min 8 b.len → take n b.places ≡ held_in b
take-held b n z e =
    let m : n ≡ min b.len (length b.places) = omega arith in
    rw m (take_min b.len b.places)
