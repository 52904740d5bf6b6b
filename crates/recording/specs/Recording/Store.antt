-- What words written from a place on leave of the parts of a list.
use Rattle.std.specs.Prelude.{◌≡◌, ℕ, ◌+◌, ◌-◌, ◌≤◌, List, ◌++◌, length, take, drop}
use Rattle.std.proofs.Common.{sym, ◌∙◌, ap, arith, append_assoc, length-append, length-drop, take-append-drop, drop_at, drop-drop, length-take-le}
use Rattle.std.proofs.lemmas.List.Edits.{sets, sets-eq}
use Rattle.std.proofs.Math.Seq.{take-append_seam, drop-append-add}
use Rattle.std.proofs.lemmas.List.{take-append-le, drop-append-le}

-- n words from q on, of a list that goes on
front_slice : (a rest : List ℕ) (q n : ℕ) → q + n ≤ length a → take n (drop q (a ++ rest)) ≡ take n (drop q a)
front_slice a rest q n h =
    let k : n ≤ length (drop q a) = simp length-drop (omega arith) in
    let j : q ≤ length a = omega arith in
    rw (drop-append-le q a rest j, take-append-le n (drop q a) rest k)

module _ (l part : List ℕ) (at : ℕ) (h : at + length part ≤ length l) where
  head_length : length (take at l ++ part) ≡ at + length part
  head_length = let k : at ≤ length l = omega arith in length-append (take at l) part ∙ rw (length-take-le at l k)

  pub sets_drop : (q : ℕ) → at + length part ≤ q → drop q (sets l at part) ≡ drop q l
  sets_drop q k =
      let e : q ≡ at + length part + (q - (at + length part)) = omega arith in
      rw (
        sets-eq part l at h,
        e,
        ← head_length,
        drop-append-add (take at l ++ part) (drop (length (take at l ++ part)) l) (q - length (take at l ++ part)),
        drop-drop,
      )

  pub sets_before : (q n : ℕ) → q + n ≤ at → take n (drop q (sets l at part)) ≡ take n (drop q l)
  sets_before q n k =
      let m : q + n ≤ length (take at l) = rw (length-take-le at l (omega arith)) k in
      ap (λ (x : List ℕ). take n (drop q x)) (sets-eq part l at h ∙ append_assoc (take at l) part (drop (at + length part) l))
      ∙ front_slice (take at l) (part ++ drop (at + length part) l) q n m
      ∙ sym (front_slice (take at l) (drop at l) q n m)
      ∙ ap (λ (x : List ℕ). take n (drop q x)) (take-append-drop at l)

  pub sets_here : take (length part) (drop at (sets l at part)) ≡ part
  sets_here =
      let k : length (take at l) ≡ at = length-take-le at l (omega arith) in
      rw (
        sets-eq part l at h,
        append_assoc,
        drop_at (take at l) (part ++ drop (at + length part) l) at k,
        take-append_seam,
      )
