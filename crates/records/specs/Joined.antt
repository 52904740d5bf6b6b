-- Records written one after another are read back one by one.
use Rattle.std.specs.Prelude.{◌≡◌, ℕ, zero, suc, ◌+◌, ◌*◌, ◌/◌, ◌<◌, length, get_or}
use Rattle.std.proofs.Common.{sym, ◌∙◌, ap, zero-add, zero-mul, suc-mul, add-one, arith, length-append, get_or-append-add, ext_get_or}
use mathlib.Core.List.{List, [], ◌∷◌, ◌++◌, map, flat_map}
use Rattle.std.proofs.Math.Nat.{zero-div, add-div_left}
use Rattle.lists.specs.Records.{tabulate, records_of, records_count, records_at}
use Rattle.records.specs.Words.{record_from, records_by}

module _ {X : Type 0} (w : ℕ) (of : (ℕ → ℕ) → X) (some : 0 < w) where
  pub records_none : records_by w of [] ≡ []
  unfolding records_of tabulate
  records_none = rw (zero-div w)

  -- the first record, and the rest
  pub records_cons : (a rest : List ℕ) → length a ≡ w → records_by w of (a ++ rest) ≡ of (λ k. get_or (a ++ rest) k 0) ∷ records_by w of rest
  records_cons a rest e =
      ext_get_or none _ _ (records_count w from (a ++ rest) ∙ count ∙ ap suc (sym (records_count w from rest)))
      (λ i h. at i (omega (arith, records_count w from (a ++ rest))))
    where
      from : List ℕ → ℕ → X
      from = record_from of

      none : X
      none = of (λ _. 0)

      count : length (a ++ rest) / w ≡ suc (length rest / w)
      count = rw (length-append a rest, e) (add-div_left (length rest) some ∙ add-one (length rest / w))

      at : (i : ℕ) → i < length (a ++ rest) / w → get_or (records_by w of (a ++ rest)) i none ≡ get_or (of (λ k. get_or (a ++ rest) k 0) ∷ records_by w of rest) i none
      at zero h = records_at w from (a ++ rest) 0 none h ∙ simp (zero-mul, zero-add)
      at (suc i) h =
          records_at w from (a ++ rest) (suc i) none h
          ∙ ap of (λ j k. word i k j)
          ∙ sym (records_at w from rest i none (omega (arith, count)))
        where
          word : (i k : ℕ) → get_or (a ++ rest) (suc i * w + k) 0 ≡ get_or rest (i * w + k) 0
          word i k =
              let s : suc i * w + k ≡ length a + (i * w + k) = omega (arith, suc-mul i w) in
              rw s (get_or-append-add a rest (i * w + k) 0)

  -- each record's words, joined in order
  pub records_flat : {Y : Type 0} (words : Y → List ℕ) (read : Y → X) → ((y : Y) → length (words y) ≡ w) → ((y : Y) (rest : List ℕ) → of (λ k. get_or (words y ++ rest) k 0) ≡ read y) → (ys : List Y) → records_by w of (flat_map words ys) ≡ map read ys
  unfolding flat_map
  records_flat words read e r [] = records_none
  records_flat words read e r (y ∷ ys) = rw (records_cons (words y) (flat_map words ys) (e y), r y (flat_map words ys), records_flat words read e r ys)
