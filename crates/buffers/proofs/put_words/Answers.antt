-- `buffers::put_words` meets its contract. The words that are cut off would be lost.
use Rattle.std.proofs.Common.{◌≡◌, refl, sym, ◌∙◌, ℕ, ◌+◌, ◌-◌, ◌≤◌, ◌<◌, List, [], ◌∷◌, ◌++◌, min, Bool, true, false, ltb, ltb-true, ltb-false, add-one, arith, length, take, drop, set, take-append-drop, length-take-le, take_all}
use Rattle.std.proofs.lemmas.List.Edits.{sets}
use Rattle.std.proofs.Math.Seq.{length-sets, take-suc}
use Rattle.std.proofs.Math.ListN.{get_or}
use Rattle.lists.specs.Writes.{sets_append, sets_snoc, sets_past}
use Rattle.buffers.proofs.put_words.Goals as goal

module _ {X : Type 0} (l ws : List X) where
  -- one word more
  more : (i n : ℕ) (x : X) → n < length ws → get_or ws n x ≡ x → set (sets l i (take n ws)) (i + n) x ≡ sets l i (take (n + 1) ws)
  more i n x h is =
      let t : length (take n ws) ≡ n = length-take-le n ws (omega (arith, h)) in
      let s : take (n + 1) ws ≡ take n ws ++ (x ∷ []) = rw add-one (take-suc ws n x h ∙ rw is) in
      rw s (rw t at (sets_snoc (take n ws) x l i))

  -- what is left, if there is any, stands past the end
  rest : (i n : ℕ) → n ≡ min (length ws) (length l - i) → i ≤ length l → sets l i (take n ws) ≡ sets l i ws
  rest i n e h = go (ltb n (length ws)) refl
    where
      go : (b : Bool) → ltb n (length ws) ≡ b → sets l i (take n ws) ≡ sets l i ws
      go true f =
          let t : length (take n ws) ≡ n = length-take-le n ws (omega arith) in
          let long : length (sets l i (take n ws)) ≤ i + length (take n ws) = rw t (omega (arith, length-sets l i (take n ws), ltb-true n (length ws) f)) in
          sym (sets_past (drop n ws) (sets l i (take n ws)) (i + length (take n ws)) long)
          ∙ sets_append (take n ws) (drop n ws) l i ∙ rw (take-append-drop n ws)
      go false f = let a : take n ws ≡ ws = take_all n ws (ltb-false n (length ws) f) in rw a

  cut : (at i n : ℕ) → i ≡ min at (length l) → n ≡ min (length ws) (length l - i) → sets l i (take n ws) ≡ sets l at ws
  cut at i n e f = rest i n f (omega arith) ∙ place (ltb at (length l)) refl
    where
      place : (b : Bool) → ltb at (length l) ≡ b → sets l i ws ≡ sets l at ws
      place true g = let same : i ≡ at = omega (arith, ltb-true at (length l) g) in rw same
      place false g = sets_past ws l i (omega (arith, ltb-false at (length l) g)) ∙ sym (sets_past ws l at (ltb-false at (length l) g))

pub loop-i-preserved : goal.loop-i-preserved
loop-i-preserved g c =
    let h : c.loop-i.i < length c.args.words.now = omega (arith, c.min-count.ensures, c.loop-i-test.true) in
    rw c.loop-i.invariant (more c.args.out.now c.args.words.now c.min-from.result c.loop-i.i c.index-words-i.result h (sym c.index-words-i.is))

pub returns : goal.returns
returns g c =
    let e : c.loop-i.i ≡ c.min-count.result = omega (arith, c.loop-i.auto.i-end, c.loop-i-test.false) in
    c.loop-i.invariant ∙ rw e (cut _ _ _ _ _ c.min-from.ensures c.min-count.ensures)
