-- The fields of a line, by where the commas stand.
use Rattle.std.specs.Prelude.{◌≡◌, ℕ, zero, suc, ◌+◌, ◌-◌, ◌≤◌, ◌<◌, Bool, take, ltb, eqb}
use Rattle.std.proofs.Math.Path.{refl}
use Rattle.std.proofs.Math.Nat.{sub-zero}
use Rattle.std.proofs.Common.{arith, drop_of_length-le, leb-true, leb-false, ltb-true, ltb-false}
use Rattle.std.proofs.Math.Bool.{true, false}
use mathlib.Core.List.{List, [], ◌∷◌, ◌++◌}
use Rattle.std.proofs.Math.ListN.{length, drop}
use Rattle.std.proofs.Math.Dec.{leb}
use Rattle.lists.specs.Tests.{by-test}
use Rattle.replay_text.specs.Lines.{comma, parts_from, fields_of, find_of}
use Rattle.replay_text.specs.Lines.Steps.{parts_more, parts_last}

-- where the comma after n more stands, from a place on
abbrev comma_after : List ℕ → ℕ → ℕ → ℕ
comma_after line zero i = find_of line comma i
comma_after line (suc n) i = comma_after line n (find_of line comma i + 1)

module _ (line : List ℕ) where
  pub field-more : (i e : ℕ) → e ≡ find_of line comma i → e < length line → fields_of (drop i line) ≡ take (e - i) (drop i line) ∷ fields_of (drop (e + 1) line)
  field-more i e is h = rw is (parts_more comma _ _ line i (rw is at h))

  pub field-last : (i : ℕ) → length line ≤ find_of line comma i → fields_of (drop i line) ≡ drop i line ∷ []
  unfolding parts_from
  field-last i h = go (leb i (length line)) refl
    where
      go : (t : Bool) → leb i (length line) ≡ t → fields_of (drop i line) ≡ drop i line ∷ []
      go true e = parts_last comma _ _ line i (leb-true _ _ e) h
      go false e = let z : length line ≤ i = omega (arith, leb-false) in rw (drop_of_length-le line z)

  few : (n i : ℕ) → length line ≤ comma_after line n i → length (fields_of (drop i line)) ≤ suc n
  few zero i h = rw (field-last i h) (omega arith)
  few (suc n) i h = go (ltb (find_of line comma i) (length line)) refl (few n (find_of line comma i + 1) h)
    where
      go : (t : Bool) → ltb (find_of line comma i) (length line) ≡ t → length (fields_of (drop (find_of line comma i + 1) line)) ≤ suc n → length (fields_of (drop i line)) ≤ suc (suc n)
      go true e f = rw (field-more i _ refl (ltb-true _ _ e)) (omega arith)
      go false e f = rw (field-last i (ltb-false _ _ e)) (omega arith)

some : (begun line : List ℕ) → 0 < length (parts_from comma (λ (f : List ℕ). f) (λ (f : List ℕ). f ∷ []) begun line)
unfolding parts_from
some begun [] = omega arith
some begun (b ∷ bs) =
    by-test (λ (fs : List (List ℕ)). 0 < length fs) (eqb b comma) _ _ (λ _. omega arith) (λ _. some (begun ++ (b ∷ [])) bs)

-- where five commas stand, or the end for each that is missing
pub record Commas (line : List ℕ) (a b c d e : ℕ) : Type 0 where
  pub first : a ≡ find_of line comma 0
  pub second : b ≡ find_of line comma (a + 1)
  pub third : c ≡ find_of line comma (b + 1)
  pub fourth : d ≡ find_of line comma (c + 1)
  pub fifth : e ≡ find_of line comma (d + 1)

module _ (line : List ℕ) (a b c d e : ℕ) (s : Commas line a b c d e) where
  pub too_few : length line ≤ e → length (fields_of line) ≤ 5
  too_few h = few line 4 0 (rw (← s.first, ← s.second, ← s.third, ← s.fourth, ← s.fifth) h)

  pub five : e < length line
      → fields_of line
      ≡ take a line ∷ take (b - (a + 1)) (drop (a + 1) line) ∷ take (c - (b + 1)) (drop (b + 1) line) ∷ take (d - (c + 1)) (drop (c + 1) line) ∷ take (e - (d + 1)) (drop (d + 1) line) ∷ fields_of (drop (e + 1) line)
  five h =
      rw (
        field-more line 0 a s.first (omega arith),
        field-more line (a + 1) b s.second (omega arith),
        field-more line (b + 1) c s.third (omega arith),
        field-more line (c + 1) d s.fourth (omega arith),
        field-more line (d + 1) e s.fifth h,
        sub-zero,
      )

  pub too_many : e < length line → find_of line comma (e + 1) < length line → 6 < length (fields_of line)
  too_many h k = rw (five h, field-more line (e + 1) _ refl k) (omega (arith, some [] (drop (find_of line comma (e + 1) + 1) line)))
