-- The rule never falls: by one computed test each entry with the last remainder of its cell is at most the next entry, and the last one at most ln 2.
use Rattle.std.specs.Prelude.{◌≡◌, ℕ, zero, suc, ◌+◌, ◌-◌, ◌*◌, ◌/◌, ◌%◌, ◌^◌, ◌<◌, ◌≤◌, Bool, T, List, [], ◌∷◌, length, nat_le, slice_index, slice_index_or, refl}
use Rattle.std.proofs.Common.{⊎_elim, le_trans, le_refl, eq-or-lt_of_le, add-zero, add-suc, add-sub_of_le, add-le-add, le_of_suc-le-suc, not-suc-le-zero, mul-le-mul_right, arith, leb→le, lit<}
use Rattle.std.proofs.Math.Pow.{shr_mono}
use Rattle.std.specs.Float.Ieee.Nearest.{div_mono}
use Rattle.arith.specs.Logarithm.{tab, ln2, cut, rem, rule, top_of, big_of, units_of}
use Rattle.arith.specs.Logarithm.Rem.{rem_mono}
use Rattle.arith.specs.Logarithm.Table.{every, at, tab-length}
use Rattle.arith.specs.Logarithm.Top.{rule_is, units_is, top_mono, big_ge, big_lt, z-lt}

-- the table with ln 2 after it
abbrev from : ℕ → ℕ
from i = slice_index_or tab i (ln2 / 4096)

room : ℕ → ℕ → ℕ → Bool
room i x next = nat_le (x + rem ((2 ^ 43 - 1) / (2 * (1024 + i)))) next

test : T (every room (ln2 / 4096) 0 tab)
unfolding tab room rem cut
test = tt

rooms : (i : ℕ) → i < 1024 → from i + rem ((2 ^ 43 - 1) / (2 * (1024 + i))) ≤ from (suc i)
unfolding room
rooms i h = leb→le _ _ (at room (ln2 / 4096) tab test i (rw tab-length h))

entry : (i : ℕ) → i < 1024 → slice_index tab i ≡ from i
entry i h = any tab i (rw tab-length h) where
  any : (xs : List ℕ) (i : ℕ) → i < length xs → slice_index xs i ≡ slice_index_or xs i (ln2 / 4096)
  any [] i h = absurd (not-suc-le-zero h)
  any (x ∷ xs) zero h = refl
  any (x ∷ xs) (suc i) h = any xs i (le_of_suc-le-suc h)

rises : (i j : ℕ) → i + j ≤ 1024 → from i ≤ from (i + j)
rises i zero h = rw (add-zero i) (le_refl _)
rises i (suc j) h = rw (add-suc i j) (le_trans (rises i j (omega arith)) (omega (arith, rooms (i + j) (omega arith))))

-- the value in the cell p, with e left
abbrev pub cell : ℕ → ℕ → ℕ
cell p e = slice_index tab (p - 1024) + rem (e / (2 * p))

module _ (p e : ℕ) (lo : 1024 ≤ p) where
  in_cell : (d : ℕ) → e ≤ d → d < 2 ^ 43 → cell p e ≤ cell p d
  in_cell d h l = add-le-add (le_refl _) (rem_mono (e / (2 * p)) (d / (2 * p)) (div_mono e (2 * p) d (2 * p) (omega arith) (omega arith) (mul-le-mul_right (2 * p) h)) (z-lt d p lo l))

  within : (j : ℕ) → e < 2 ^ 43 → suc (p - 1024) + j ≤ 1024 → cell p e ≤ from (suc (p - 1024) + j)
  within j l h = le_trans (in_cell (2 ^ 43 - 1) (omega arith) (lit< tt)) (le_trans (rw (add-sub_of_le lo, ← entry (p - 1024) (omega arith)) at (rooms (p - 1024) (omega arith))) (rises (suc (p - 1024)) j h))

cells : (p e q f : ℕ) → 1024 ≤ p → q < 2048 → e < 2 ^ 43 → f < 2 ^ 43 → p * 2 ^ 43 + e ≤ q * 2 ^ 43 + f → cell p e ≤ cell q f
cells p e q f lo hi le lf h = ⊎_elim same next (eq-or-lt_of_le (omega arith)) where
  same : p ≡ q → cell p e ≤ cell q f
  same g = rw (← g) (in_cell p e lo f (omega arith) lf)

  next : p < q → cell p e ≤ cell q f
  next l = le_trans (within p e lo (q - suc p) le (omega arith)) (rw up (omega (arith, entry (q - 1024) (omega arith)))) where
    up : suc (p - 1024) + (q - suc p) ≡ q - 1024
    up = omega arith

last : from 1024 ≡ ln2 / 4096
unfolding tab
last = refl

pub cell-le : (p e : ℕ) → 1024 ≤ p → p < 2048 → e < 2 ^ 43 → cell p e ≤ ln2 / 4096
cell-le p e lo hi le = rw (end, last) at (within p e lo (2047 - p) le (omega arith)) where
  end : suc (p - 1024) + (2047 - p) ≡ 1024
  end = omega arith

rule_mono : (b d k j : ℕ) → 2 ^ 53 ≤ b → b < 2 ^ 54 → d < 2 ^ 54 → k ≤ j → (k ≡ j → b ≤ d) → rule b k ≤ rule d j
rule_mono b d k j lo hb hd h same = ⊎_elim equal less (eq-or-lt_of_le h) where
  equal : k ≡ j → rule b k ≤ rule d j
  equal e =
      let l = same e in
      omega (arith, rule_is b k, rule_is d j, cells (b / 2 ^ 43) (b % 2 ^ 43) (d / 2 ^ 43) (d % 2 ^ 43) (omega arith) (omega arith) (omega arith) (omega arith) (omega arith))

  less : k < j → rule b k ≤ rule d j
  less l = omega (arith, rule_is b k, rule_is d j, cell-le (b / 2 ^ 43) (b % 2 ^ 43) (omega arith) (omega arith) (omega arith))

pub units_mono : (m n : ℕ) → 1 ≤ m → m ≤ n → units_of m ≤ units_of n
units_mono m n lo h =
    rw (units_is m, units_is n) (rule_mono (big_of m) (big_of n) (top_of m) (top_of n) (big_ge m lo) (big_lt m lo) (big_lt n (le_trans lo h)) (top_mono m n h) same) where
      same : top_of m ≡ top_of n → big_of m ≤ big_of n
      same e = rw e (shr_mono (top_of n) (mul-le-mul_right (2 ^ 53) h))
