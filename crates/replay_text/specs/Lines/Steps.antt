-- Lines and fields, one at a time.
use Rattle.std.specs.Prelude.{◌≡◌, Bool, Some, None, not, drop, get_or, eqb, position, nat_lt}
use Rattle.std.specs.List.{position_or_len}
use Rattle.std.proofs.Common.{refl, ◌∙◌, add-one, arith, length-drop, drop_of_length-le, drop-cons, drop-drop}
use Prim.Native.Nat.{ℕ, suc, ◌+◌, ◌-◌, ◌≤◌, ◌<◌}
use Rattle.std.proofs.Math.Bool.{true, false, cond}
use mathlib.Core.List.{List, [], ◌∷◌, ◌++◌, append-nil}
use Rattle.std.proofs.Math.ListN.{length, take}
use Rattle.std.proofs.Math.Seq.{append_snoc}
use borrow.Author.Tests.{eq-eqb, ne_eqb, ltb-false}
use Rattle.replay_text.specs.Lines.{parts_from, before, find_of}

-- ---- the first x

module _ (x : ℕ) (l : List ℕ) (i : ℕ) where
  pub before_hit : i < length l → get_or l i 0 ≡ x → before x (drop i l) ≡ 0
  unfolding before
  before_hit h e = rw (drop-cons l i 0 h, eq-eqb _ _ e)

  pub before_miss : i < length l → (get_or l i 0 ≡ x → ⊥) → before x (drop i l) ≡ suc (before x (drop (i + 1) l))
  unfolding before
  before_miss h e = rw (drop-cons l i 0 h, ne_eqb _ _ e, add-one)

  pub before-end : length l ≤ i → before x (drop i l) ≡ 0
  unfolding before
  before-end h = rw (drop_of_length-le l h)

before-within : (x : ℕ) (l : List ℕ) → before x l ≤ length l
unfolding before
before-within x [] = omega arith
before-within x (b ∷ bs) = go (eqb b x) (before-within x bs)
  where
    go : (t : Bool) → before x bs ≤ length bs → cond t 0 (suc (before x bs)) ≤ suc (length bs)
    go true h = omega arith
    go false h = omega arith

pub find_within : (x : ℕ) (l : List ℕ) (i : ℕ) → i ≤ length l → find_of l x i ≤ length l
find_within x l i h = let e = length-drop i l in omega (arith, before-within x (drop i l))

before_prefix : (x : ℕ) (l : List ℕ) → before x l ≡ position_or_len (λ (b : ℕ). eqb b x) l
unfolding before
before_prefix x [] = refl
before_prefix x (b ∷ bs) = go (eqb b x) (before_prefix x bs)
  where
    go : (t : Bool) → before x bs ≡ position_or_len (λ (b : ℕ). eqb b x) bs → cond t 0 (suc (before x bs)) ≡ cond (not t) (1 + position_or_len (λ (b : ℕ). eqb b x) bs) 0
    go true e = refl
    go false e = omega arith

-- by the library's word for the first place that passes
module _ (x : ℕ) (l : List ℕ) where
  pub before-some : (i : ℕ) → position (λ (b : ℕ). eqb b x) l ≡ Some i → before x l ≡ i
  before-some i e = before_prefix x l ∙ go (nat_lt (position_or_len (λ (b : ℕ). eqb b x) l) (length l)) e
    where
      go : (t : Bool) → cond t (Some (position_or_len (λ (b : ℕ). eqb b x) l)) None ≡ Some i → position_or_len (λ (b : ℕ). eqb b x) l ≡ i
      go true e = cc
      go false e = cc

  pub before-none : position (λ (b : ℕ). eqb b x) l ≡ None → before x l ≡ length l
  before-none e = go (nat_lt (position_or_len (λ (b : ℕ). eqb b x) l) (length l)) refl e
    where
      go : (t : Bool) → nat_lt (position_or_len (λ (b : ℕ). eqb b x) l) (length l) ≡ t → cond t (Some (position_or_len (λ (b : ℕ). eqb b x) l)) None ≡ None → before x l ≡ length l
      go true h e = cc
      go false h e = omega (arith, before_prefix x l, before-within x l, ltb-false)

-- ---- the parts that a separator makes

module _ (x : ℕ) (ended : List ℕ → List ℕ) (last : List ℕ → List (List ℕ)) where
  split : (begun l : List ℕ) → before x l < length l
      → parts_from x ended last begun l ≡ ended (begun ++ take (before x l) l) ∷ parts_from x ended last [] (drop (suc (before x l)) l)
  unfolding parts_from before
  split begun [] h = absurd (omega arith)
  split begun (b ∷ bs) h = go (eqb b x) h (split (begun ++ (b ∷ [])) bs)
    where
      go : (t : Bool) → cond t 0 (suc (before x bs)) < suc (length bs)
          → (before x bs < length bs → parts_from x ended last (begun ++ (b ∷ [])) bs ≡ ended ((begun ++ (b ∷ [])) ++ take (before x bs) bs) ∷ parts_from x ended last [] (drop (suc (before x bs)) bs))
          → cond t (ended begun ∷ parts_from x ended last [] bs) (parts_from x ended last (begun ++ (b ∷ [])) bs)
          ≡ ended (begun ++ take (cond t 0 (suc (before x bs))) (b ∷ bs)) ∷ parts_from x ended last [] (drop (suc (cond t 0 (suc (before x bs)))) (b ∷ bs))
      go true h ih = rw append-nil
      go false h ih = ih (omega arith) ∙ rw append_snoc

  whole : (begun l : List ℕ) → length l ≤ before x l → parts_from x ended last begun l ≡ last (begun ++ l)
  unfolding parts_from before
  whole begun [] h = rw append-nil
  whole begun (b ∷ bs) h = go (eqb b x) h (whole (begun ++ (b ∷ [])) bs)
    where
      go : (t : Bool) → suc (length bs) ≤ cond t 0 (suc (before x bs)) → (length bs ≤ before x bs → parts_from x ended last (begun ++ (b ∷ [])) bs ≡ last ((begun ++ (b ∷ [])) ++ bs))
          → cond t (ended begun ∷ parts_from x ended last [] bs) (parts_from x ended last (begun ++ (b ∷ [])) bs) ≡ last (begun ++ b ∷ bs)
      go true h ih = absurd (omega arith)
      go false h ih = ih (omega arith) ∙ rw append_snoc

  module _ (l : List ℕ) (i : ℕ) where
    pub parts_more : find_of l x i < length l
        → parts_from x ended last [] (drop i l) ≡ ended (take (find_of l x i - i) (drop i l)) ∷ parts_from x ended last [] (drop (find_of l x i + 1) l)
    parts_more h =
        let n : before x (drop i l) < length (drop i l) = simp length-drop (omega arith) in
        let e : i + before x (drop i l) - i ≡ before x (drop i l) = omega arith in
        let s : i + suc (before x (drop i l)) ≡ i + before x (drop i l) + 1 = omega arith in
        split [] (drop i l) n ∙ rw (drop-drop (suc (before x (drop i l))) i l, s, e)

    pub parts_last : i ≤ length l → length l ≤ find_of l x i → parts_from x ended last [] (drop i l) ≡ last (drop i l)
    parts_last h k = whole [] (drop i l) (simp length-drop (omega arith))
