-- What a batch's start is: the place of the smallest number, and the earliest that has it.
use Rattle.std.specs.Prelude.{ℕ, zero, suc, ◌+◌, ◌-◌, ◌≤◌, ◌<◌, ◌≡◌, refl, Bool, true, false, cond, List, ltb, length, drop, get_or}
use Rattle.std.proofs.Common.{arith, ltb-true, ltb-false}
use Rattle.records.specs.declared.tables.Table.{Table}
use Rattle.records.specs.Tables.{table_at}
use Rattle.offers.specs.Offers.{seed_from, seed_of}
use Rattle.offers.specs.Batches.{seed_more, seed_end, seed_some}

-- of so many numbers the smallest stands at a place, and none before it is as small
pub record IsSmallest (number : ℕ → ℕ) (many place : ℕ) : Type 0 where
  pub within : place < many
  pub least : (j : ℕ) → j < many → number place ≤ number j
  pub earliest : (j : ℕ) → j < place → number place < number j

module _ (number : ℕ → ℕ) (i at : ℕ) (s : IsSmallest number i at) where
  smaller_now : number i < number at → IsSmallest number (i + 1) i
  smaller_now h = record { within = omega arith; least = λ j l. up_to j (omega arith); earliest = λ j l. omega (arith, s.least j l) }
    where
      up_to : (j : ℕ) → j ≤ i → number i ≤ number j
      up_to j l = below (ltb j i) refl
        where
          below : (t : Bool) → ltb j i ≡ t → number i ≤ number j
          below true e = omega (arith, s.least j (ltb-true j i e))
          below false e = let same : j ≡ i = omega (arith, ltb-false j i e) in rw same (omega arith)

  no-smaller : number at ≤ number i → IsSmallest number (i + 1) at
  no-smaller h = record { within = omega (arith, s.within); least = λ j l. below j (omega arith) (ltb j i) refl; earliest = s.earliest }
    where
      below : (j : ℕ) → j ≤ i → (t : Bool) → ltb j i ≡ t → number at ≤ number j
      below j l true e = s.least j (ltb-true j i e)
      below j l false e = let same : j ≡ i = omega (arith, ltb-false j i e) in rw same h

module _ (ts : List Table) (ps : List ℕ) where
  -- the number of the table at a place of the order
  abbrev pub number_at : ℕ → ℕ
  number_at j = (table_at ts (get_or ps j 0)).number

  seed_from_lem : (k i best at : ℕ) → length ps ≡ i + k → best ≡ number_at at → IsSmallest number_at i at → IsSmallest number_at (length ps) (seed_from ts i best at (drop i ps))
  seed_from_lem zero i best at e b s = let n : length ps ≡ i = omega arith in rw (seed_end ts ps i best at (omega arith), n) s
  seed_from_lem (suc k) i best at e b s =
      rw (seed_more ts ps i best at (omega arith)) (go (ltb (number_at i) best) refl (seed_from_lem k (i + 1) (number_at i) i (omega arith) refl) (seed_from_lem k (i + 1) best at (omega arith) b))
    where
      go : (t : Bool) → ltb (number_at i) best ≡ t
          → (IsSmallest number_at (i + 1) i → IsSmallest number_at (length ps) (seed_from ts (i + 1) (number_at i) i (drop (i + 1) ps)))
          → (IsSmallest number_at (i + 1) at → IsSmallest number_at (length ps) (seed_from ts (i + 1) best at (drop (i + 1) ps)))
          → IsSmallest number_at (length ps) (cond t (seed_from ts (i + 1) (number_at i) i (drop (i + 1) ps)) (seed_from ts (i + 1) best at (drop (i + 1) ps)))
      go true f now kept = now (smaller_now number_at i at s (omega (arith, ltb-true (number_at i) best f)))
      go false f now kept = kept (no-smaller number_at i at s (omega (arith, ltb-false (number_at i) best f)))

  pub seed_smallest : 0 < length ps → IsSmallest number_at (length ps) (seed_of ts ps)
  seed_smallest h =
      rw (seed_some ts ps h) (seed_from_lem (length ps - 1) 1 (number_at 0) 0 (omega arith) refl (record { within = omega arith; least = λ j l. let z : j ≡ 0 = omega arith in rw z (omega arith); earliest = λ j l. absurd (omega arith) }))
