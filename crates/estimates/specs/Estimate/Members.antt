-- Which tables an estimate speaks of: those that numbers are looked up as, and those of a level, are tables of the list. So sizes bound their bytes.
use Rattle.std.specs.Prelude.{◌≡◌, refl, Bool, true, false, not, cond, ℕ, ◌+◌, ◌-◌, ◌*◌, ◌^◌, ◌≤◌, length, eqb, ltb}
use Rattle.std.proofs.Common.{⊎_elim, arith, ltb-false}
use mathlib.Core.List.Memᴰ
use mathlib.Core.List.{List, [], ◌∷◌, flat_map, Memᴰ}
use Rattle.lists.specs.Tests.{neither}
use Rattle.lists.specs.Any.{any_of, any-no}
use Rattle.lists.specs.Filter.{filter_of, filter_in, filter-small}
use Rattle.lists.specs.Flat.{flat_small}
use Rattle.records.specs.declared.tables.Table.{Table}
use Rattle.faults.specs.Tables.{table_broken}
use Rattle.lookups.specs.Lookups.{lookup}
use Rattle.lookups.specs.Members.{Among, lookup-among, lookup-small}
use Rattle.reliefs.specs.Reliefs.{at_level, bytes_of}
use Rattle.estimates.specs.Estimate.{matched, off_level}

pub matched-among : (ts : List Table) (ns : List ℕ) → Among ts (matched ts ns)
unfolding flat_map
matched-among ts [] t m = absurd (Memᴰ.not-nil m)
matched-among ts (n ∷ ns) t m = ⊎_elim (lookup-among n ts t) (matched-among ts ns t) (Memᴰ.append_cases (lookup ts n) m)

at-among : (level : ℕ) (ts : List Table) → Among ts (at_level level ts)
at-among level ts t m = (filter_in (λ u. eqb u.level level) ts t m).0

-- no more tables than numbers
pub matched-small : (ts : List Table) (ns : List ℕ) → length (matched ts ns) ≤ length ns
matched-small ts ns = omega (arith, flat_small (lookup ts) 1 (lookup-small ts) ns)

-- on a level and off it, none left out and none twice
pub level_and_rest : (level : ℕ) (ts : List Table) → bytes_of (at_level level ts) + bytes_of (off_level level ts) ≡ bytes_of ts
unfolding filter_of bytes_of
level_and_rest level [] = omega arith
level_and_rest level (t ∷ ts) = go (eqb t.level level) (level_and_rest level ts)
  where
    go : (b : Bool) → bytes_of (at_level level ts) + bytes_of (off_level level ts) ≡ bytes_of ts
        → bytes_of (cond b (t ∷ at_level level ts) (at_level level ts)) + bytes_of (cond (not b) (t ∷ off_level level ts) (off_level level ts)) ≡ t.size + bytes_of ts
    go true h = omega arith
    go false h = omega arith

-- ---- sizes

-- no table is above 2^40 bytes
abbrev pub Small : List Table → Type 0
Small ts = (t : Table) → Memᴰ t ts → t.size ≤ 2 ^ 40

pub small-tables : (ts : List Table) → any_of table_broken ts ≡ false → Small ts
small-tables ts e t m = ltb-false (2 ^ 40) t.size (neither (ltb (2 ^ 32 - 1) t.level) (ltb (2 ^ 40) t.size) (any-no table_broken ts e t m)).1

pub small-found : (ts : List Table) (n : ℕ) (x : Table) → Small ts → lookup ts n ≡ x ∷ [] → x.size ≤ 2 ^ 40
small-found ts n x s e = s x (lookup-among n ts x (rw e (Memᴰ.head refl)))

bytes_le : (ts : List Table) → Small ts → bytes_of ts ≤ length ts * 2 ^ 40
unfolding bytes_of
bytes_le [] s = omega arith
bytes_le (t ∷ ts) s = omega (arith, s t (Memᴰ.head refl), bytes_le ts (λ u m. s u (Memᴰ.tail m)))

-- at most 1,024 tables of the list
pub few_bytes : (ts some : List Table) → Small ts → Among ts some → length some ≤ 1024 → bytes_of some ≤ 2 ^ 50
few_bytes ts some small among few = omega (arith, bytes_le some (λ t m. small t (among t m)))

pub level-bytes : (ts : List Table) (level : ℕ) → Small ts → length ts ≤ 1024 → bytes_of (at_level level ts) ≤ 2 ^ 50
level-bytes ts level small few = few_bytes ts _ small (at-among level ts) (omega (arith, filter-small (λ t. eqb t.level level) ts))
