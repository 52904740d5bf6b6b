-- What some tables come to, in one pass: bytes on a level and off it, how many are on it, and the smallest of their numbers.
use Rattle.std.specs.Prelude.{◌≡◌, refl, Bool, not, List, [], ◌∷◌, ℕ, ◌+◌, ◌-◌, ◌^◌, ◌≤◌, min, length, take, drop, Float, eqb}
use Rattle.std.proofs.Common.{◌∙◌, one-add, add-zero, zero-add, add_assoc, length-take}
use Rattle.std.proofs.Math.Bool.{true, false, cond}
use native.Mathlib.Omega.{arith}
use borrow.Author.Tests.{eq-eqb, ne_eqb}
use Rattle.lists.specs.Filter.{filter_of}
use Rattle.arith.specs.Floats.{f0, f1}
use Rattle.records.specs.declared.tables.Table.{Table}
use Rattle.records.specs.declared.tables.Entry.{Entry}
use Rattle.candidate_records.specs.declared.Candidate.{Candidate}
use Rattle.estimates.specs.declared.Tally.{Tally}
use Rattle.reliefs.specs.Reliefs.{at_level, bytes_of, level_bytes_of, relief_by, relief-exact}
use Rattle.estimates.specs.Estimate.{matched, off_level, oldest_from, oldest_of, inputs_of, estimate_of}
use Rattle.estimates.specs.Estimate.Members.{Small, level-bytes}

unfoldable pub tally_of : ℕ → ℕ → List Table → Tally
tally_of level next ts =
    record { input = bytes_of (at_level level ts); overlap = bytes_of (off_level level ts); files = length (at_level level ts); oldest = oldest_of next (at_level level ts) }

-- one table more
unfoldable pub older_of : Tally → ℕ → ℕ
older_of t n = cond (eqb t.files 0) n (min t.oldest n)

abbrev pub with_on : Tally → Table → Tally
with_on t x = record { input = t.input + x.size; overlap = t.overlap; files = t.files + 1; oldest = older_of t x.number }

abbrev pub with_off : Tally → Table → Tally
with_off t x = record { input = t.input; overlap = t.overlap + x.size; files = t.files; oldest = t.oldest }

unfoldable pub with_table : ℕ → Tally → Table → Tally
with_table level t x = cond (eqb x.level level) (with_on t x) (with_off t x)

unfoldable pub tally_from : ℕ → Tally → List Table → Tally
tally_from level t [] = t
tally_from level t (x ∷ xs) = tally_from level (with_table level t x) xs

abbrev pub no_tally : ℕ → Tally
no_tally next = record { input = 0; overlap = 0; files = 0; oldest = next }

-- ---- the pass from some tally on

-- the smallest number after some tally, over those on its level that follow
unfoldable older_after : Tally → List Table → ℕ
older_after t xs = cond (eqb t.files 0) (oldest_of t.oldest xs) (oldest_from t.oldest xs)

older_nil : (t : Tally) → t.oldest ≡ older_after t []
unfolding older_after oldest_of oldest_from
older_nil t = go (eqb t.files 0)
  where
    go : (b : Bool) → t.oldest ≡ cond b t.oldest t.oldest
    go true = refl
    go false = refl

older_more : (t : Tally) (x : Table) (xs : List Table) → older_after (with_on t x) xs ≡ older_after t (x ∷ xs)
unfolding older_after older_of oldest_of oldest_from
older_more t x xs = rw (ne_eqb (t.files + 1) 0 (λ e. omega arith)) (go (eqb t.files 0))
  where
    go : (b : Bool) → oldest_from (cond b x.number (min t.oldest x.number)) xs ≡ cond b (oldest_from x.number xs) (oldest_from (min t.oldest x.number) xs)
    go true = refl
    go false = refl

older_less : (t : Tally) (x : Table) (xs : List Table) → older_after (with_off t x) xs ≡ older_after t xs
unfolding older_after
older_less t x xs = refl

-- on is what follows on the level, off what follows off it
abbrev after : Tally → List Table → List Table → Tally
after t on off = record { input = t.input + bytes_of on; overlap = t.overlap + bytes_of off; files = t.files + length on; oldest = older_after t on }

from_on : (level : ℕ) (t : Tally) (xs : List Table) → tally_from level t xs ≡ after t (at_level level xs) (off_level level xs)
unfolding tally_from with_table filter_of bytes_of
from_on level t [] = rw (add-zero, add-zero, add-zero, ← (older_nil t))
from_on level t (x ∷ xs) = from_on level (with_table level t x) xs ∙ go (eqb x.level level) (at_level level xs) (off_level level xs)
  where
    go : (b : Bool) (on off : List Table) → after (cond b (with_on t x) (with_off t x)) on off ≡ after t (cond b (x ∷ on) on) (cond (not b) (x ∷ off) off)
    go true on off = rw (older_more t x on, add_assoc, add_assoc, one-add)
    go false on off = rw (older_less t x on, add_assoc)

pub tally_is : (level next : ℕ) (ts : List Table) → tally_from level (no_tally next) ts ≡ tally_of level next ts
unfolding tally_of older_after
tally_is level next ts = from_on level (no_tally next) ts ∙ rw (zero-add, zero-add, zero-add)

-- ---- bounds

module _ (level : ℕ) (t : Tally) (x : Table) where
  pub with_sum : (with_table level t x).input + (with_table level t x).overlap ≡ t.input + t.overlap + x.size
  unfolding with_table
  with_sum = go (eqb x.level level)
    where
      go : (b : Bool) → let w = cond b (with_on t x) (with_off t x) in w.input + w.overlap ≡ t.input + t.overlap + x.size
      go true = omega arith
      go false = omega arith

  pub with_files : (with_table level t x).files ≤ t.files + 1
  unfolding with_table
  with_files = go (eqb x.level level)
    where
      go : (b : Bool) → (cond b (with_on t x) (with_off t x)).files ≤ t.files + 1
      go true = omega arith
      go false = omega arith

-- ---- an estimate by its tally

-- a candidate's own numbers, as they are lent
abbrev own_of : List ℕ → Candidate → List ℕ
own_of ns c = take (c.start + c.count - c.start) (drop c.start ns)

pub own-short : (ns : List ℕ) (c : Candidate) → c.count ≤ 1024 → length (own_of ns c) ≤ 1024
own-short ns c h = omega (arith, length-take (c.start + c.count - c.start) (drop c.start ns))

own_is : (ns : List ℕ) (c : Candidate) → own_of ns c ≡ inputs_of ns c
own_is ns c = let e : c.start + c.count - c.start ≡ c.count = omega arith in rw e

module _ (ts : List Table) (next : ℕ) (es : List Entry) (ns : List ℕ) (c : Candidate) {t : Tally} {age : ℕ} where
  pub estimate-l0 : c.kind ≡ 1 → t ≡ tally_of 0 next (matched ts (own_of ns c)) → age ≡ next - t.oldest → record {
    input_bytes = t.input;
    overlap_bytes = t.overlap;
    estimated_rewrite_bytes = t.input + t.overlap;
    debt_relief_bytes = t.input;
    l0_files_removed = t.files;
    age = age;
    l0_relief = f1;
    debt_relief = f0;
    read_relief = f1;
  } ≡ estimate_of ts next es ns c
  unfolding estimate_of tally_of
  estimate-l0 k e a = rw (a, e, own_is ns c, eq-eqb _ _ k, ne_eqb c.kind 3 (λ z. omega arith))

  pub estimate-level : {rewrite total : ℕ} {relief : Float} → Small ts → length ts ≤ 1024 → (c.kind ≡ 1 → ⊥) → t ≡ tally_of c.level next (matched ts (own_of ns c)) → rewrite ≡ cond (eqb c.kind 3) 0 (t.input + t.overlap) → age ≡ next - t.oldest → total ≡ level_bytes_of c.level ts → relief ≡ relief_by es c.level t.input total → record {
    input_bytes = t.input;
    overlap_bytes = t.overlap;
    estimated_rewrite_bytes = rewrite;
    debt_relief_bytes = t.input;
    l0_files_removed = 0;
    age = age;
    l0_relief = f0;
    debt_relief = relief;
    read_relief = f0;
  } ≡ estimate_of ts next es ns c
  unfolding estimate_of tally_of
  estimate-level {total = total} small few k e w a b r =
      let fits : bytes_of (at_level c.level ts) ≤ 2 ^ 64 - 1 = omega (arith, level-bytes ts c.level small few) in
      rw (w, a, r, relief-exact ts es c.level t.input total b fits, e, own_is ns c, ne_eqb _ _ k)
