-- Records of any width as functions of their words: which word of the list a record's word is.
use Rattle.std.specs.Prelude.{ℕ, suc, ◌+◌, ◌*◌, ◌/◌, ◌<◌, ◌≡◌, refl, Bool, cond, List, ltb, length, get_or}
use Rattle.std.proofs.Common.{le-div_iff_mul-le, suc-mul, arith, sym, ltb-true, ltb-false}
use Rattle.std.proofs.Math.Bool.{true, false}
use Rattle.lists.specs.Records.{records_of, records_at, records_past}

module _ {X : Type 0} where
  -- the record that starts at a word; `of` makes it of its words, word 0, word 1 and so on
  abbrev pub record_from : ((ℕ → ℕ) → X) → List ℕ → ℕ → X
  record_from of ws at = of (λ k. get_or ws (at + k) 0)

  abbrev pub records_by : ℕ → ((ℕ → ℕ) → X) → List ℕ → List X
  records_by w of = records_of w (record_from of)

-- the word k after the first of the record at a place; 0 past the last whole record
unfoldable pub read_of : List ℕ → ℕ → ℕ → ℕ → ℕ
read_of ws w i k = cond (ltb i (length ws / w)) (get_or ws (i * w + k) 0) 0

-- the same of a word of the record; 0 past its width
abbrev pub word_of : List ℕ → ℕ → ℕ → ℕ → ℕ
word_of ws w i k = cond (ltb k w) (read_of ws w i k) 0

module _ (ws : List ℕ) (w i : ℕ) where
  -- no word of a whole record stands past the end
  pub record_inside : {k : ℕ} → k < w → i < length ws / w → i * w + k < length ws
  record_inside p h = let e = (le-div_iff_mul-le {k = w} {x = suc i} {y = length ws} (omega arith)).0 (omega arith) in omega (arith, suc-mul i w)

  module _ {X : Type 0} (of : (ℕ → ℕ) → X) where
    at_test : (t : Bool) → ltb i (length ws / w) ≡ t → of (λ k. read_of ws w i k) ≡ get_or (records_by w of ws) i (of (λ _. 0))
    unfolding read_of
    at_test true e = simp e (sym (records_at w (record_from of) ws i _ (ltb-true _ _ e)))
    at_test false e = simp e (sym (records_past w (record_from of) ws i _ (ltb-false _ _ e)))

    -- the record at a place, also past the last
    pub record_at : of (λ k. read_of ws w i k) ≡ get_or (records_by w of ws) i (of (λ _. 0))
    record_at = at_test _ refl
