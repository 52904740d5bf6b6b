-- What is found from a place on is the next line.
use Rattle.std.specs.Prelude.{Option, Some, None, ◌≡◌, Bool, cond, ◌&&◌, List, [], ◌∷◌, ◌++◌, drop, get_or, leb}
use Rattle.std.proofs.Math.Path.{refl, ap}
use Rattle.std.proofs.Common.{sym, ◌∙◌, take_all}
use Prim.Native.Nat.{ℕ, suc, ◌+◌, ◌-◌, ◌≤◌, ◌<◌}
use native.Mathlib.Omega.{arith}
use Rattle.std.proofs.Math.Bool.{true, false}
use Rattle.std.proofs.Math.ListN.{length, take, length-drop, drop_of_length-le}
use Rattle.std.proofs.Math.Seq.{take-suc, get_or-drop}
use Rattle.std.proofs.Math.Dec.{ltb, eqb}
use borrow.Author.Tests.{leb-true, leb-false, ltb-true, ltb-false}
use Rattle.replay_text.specs.declared.reader.LinePart.{LinePart}
use Rattle.lists.specs.Tests.{by-test}
use Rattle.replay_text.specs.Lines.{LF, CR, parts_from, without_cr, last_line, lines_of, find_of, end_of, line_at_of}
use Rattle.replay_text.specs.Lines.Steps.{find_within, parts_more, parts_last}

pub record IsLine (text : List ℕ) (at start end next : ℕ) : Type 0 where
  pub order : start ≤ end
  pub room : end ≤ length text
  pub on : at < next
  pub within : next ≤ length text
  pub lines : lines_of (drop at text) ≡ take (end - start) (drop start text) ∷ lines_of (drop next text)

-- what a finding says of the lines from its place on
abbrev pub Says : List ℕ → ℕ → Option LinePart → Type 0
Says text at (Some l) = IsLine text at l.start l.end l.next
Says text at None = lines_of (drop at text) ≡ []

cond_cons : (b : ℕ) (t : Bool) (l m : List ℕ) → b ∷ cond t l m ≡ cond t (b ∷ l) (b ∷ m)
cond_cons b true l m = refl
cond_cons b false l m = refl

-- a CR goes only from the very end
without_cr_lem : (l : List ℕ) (x : ℕ) → without_cr (l ++ (x ∷ [])) ≡ cond (eqb x CR) l (l ++ (x ∷ []))
unfolding without_cr
without_cr_lem [] x = refl
without_cr_lem (b ∷ []) x = cond_cons b (eqb x CR) [] (x ∷ [])
without_cr_lem (b ∷ c ∷ bs) x = ap (λ (l : List ℕ). b ∷ l) (without_cr_lem (c ∷ bs) x) ∙ cond_cons b (eqb x CR) (c ∷ bs) (c ∷ (bs ++ (x ∷ [])))

module _ (text : List ℕ) (at stop : ℕ) where
  abbrev Ended : ℕ → Type 0
  Ended end = (at ≤ end) × (end ≤ stop) × (without_cr (take (stop - at) (drop at text)) ≡ take (end - at) (drop at text))

  ended : at ≤ stop → stop ≤ length text → Ended (end_of text at stop)
  unfolding without_cr end_of
  ended h k = go (ltb at stop) refl
    where
      go : (t : Bool) → ltb at stop ≡ t → Ended (cond (t && eqb (get_or text (stop - 1) 0) CR) (stop - 1) stop)
      go false e = let z : stop - at ≡ 0 = omega (arith, ltb-false) in (h, omega arith, rw z)
      go true e =
          let i : at < stop = ltb-true _ _ e in
          let j : stop - at ≡ suc (stop - 1 - at) = omega arith in
          let r : stop - 1 - at < length (drop at text) = simp length-drop (omega arith) in
          let g : at + (stop - 1 - at) ≡ stop - 1 = omega arith in
          let s : take (stop - at) (drop at text) ≡ take (stop - 1 - at) (drop at text) ++ (get_or text (stop - 1) 0 ∷ []) = rw (j, take-suc (drop at text) (stop - 1 - at) 0 r, get_or-drop, g) in
          let w = ap without_cr s ∙ without_cr_lem (take (stop - 1 - at) (drop at text)) (get_or text (stop - 1) 0) in
          by-test Ended (eqb (get_or text (stop - 1) 0) CR) (stop - 1) stop (λ u. (omega arith, omega arith, w ∙ rw u)) (λ u. (omega arith, omega arith, w ∙ rw u (sym s)))

last_line_lem : (l : List ℕ) → 0 < length l → last_line l ≡ l ∷ []
last_line_lem [] h = absurd (omega arith)
last_line_lem (b ∷ bs) h = refl

module _ (text : List ℕ) (at : ℕ) where
  pub line_at_says : Says text at (line_at_of text at)
  unfolding line_at_of parts_from
  line_at_says =
      let stop = find_of text LF at in
      by-test (Says text at) (leb (length text) at) _ _ (λ e. rw (drop_of_length-le text (leb-true _ _ e))) λ e.
      let h : at < length text = leb-false _ _ e in
      let w : stop ≤ length text = find_within LF text at (omega arith) in
      let d = length-drop at text in
      by-test (Says text at) (leb (length text) stop) _ _ (λ k.
      let i : length text ≤ stop = leb-true _ _ k in
      let l : length (drop at text) ≤ stop - at = omega arith in
      record { order = omega arith; room = w; on = omega arith; within = w; lines = parts_last LF without_cr last_line text at (omega arith) i ∙ last_line_lem (drop at text) (omega arith) ∙ rw (take_all (stop - at) (drop at text) l, drop_of_length-le text i) }) λ k.
      let i : stop < length text = leb-false _ _ k in
      let s = ended text at stop (omega arith) w in
      record { order = s.0; room = omega arith; on = omega arith; within = omega arith; lines = parts_more LF without_cr last_line text at i ∙ rw s.2 }
