-- `fits::put_zeros` meets its contract.
use Rattle.std.proofs.Common.{◌≡◌, ◌∙◌, ap, ℕ, ◌+◌, ◌-◌, ◌≤◌, List, length, take, drop, arith, append_assoc, length-take, length-drop}
use Rattle.std.proofs.Math.Seq.{drop-drop}
use Rattle.std.proofs.lemmas.List.{length-replicate}
use Rattle.std.proofs.lemmas.List.Edits.{sets, sets-eq}
use borrow.Rule.Slice.PartMut.{put_mid}
use Rattle.fits.proofs.put_zeros.Goals as goal

laid : (a k : ℕ) (xs ys : List ℕ) → length ys ≡ k → a + k ≤ length xs → put_mid a k xs ys ≡ sets xs a ys
laid a k xs ys e h = let w : a + length ys ≤ length xs = omega arith in rw (sets-eq ys xs a w, append_assoc, e, drop-drop)

pub returns : goal.returns
returns c = let a = c.args in
    let n : length (take (a.to - a.from) (drop a.from a.out.now)) ≡ a.to - a.from = simp (length-take, length-drop) (omega arith) in
    let z = rw n at (c.fill.ensures.after (λ y e. e)) in
    laid a.from (a.to - a.from) a.out.now c.fill.new.self (rw z (length-replicate {A = ℕ} (a.to - a.from) 0)) (omega arith) ∙ ap (λ (l : List ℕ). sets a.out.now a.from l) z
