-- `inputs::read_full` meets its contract: what a read puts behind the place joins what stands before it.
use Rattle.std.proofs.Common.{◌≡◌, ℕ, ◌+◌, ◌-◌, ◌≤◌, List, ◌++◌, rules, arith, length, take, slice_range, sym, ap, ◌∙◌, subst, le_refl, drop_at, length-take-le}
use Rattle.std.proofs.lemmas.Slice.{take-put_mid_below}
use Rattle.std.specs.Io.KnownBytes.{Consumes}
use Rattle.std.proofs.KnownBytes.{Consumes-trans}
use borrow.Rule.Slice.PartMut.{put_mid, post_of}
use lib.Seq.{take-add, take-append-le}
use Rattle.inputs.proofs.read_full.Goals as goal

-- the front of a list, and then what was put behind it, is the longer front of the new list
take-put_mid : (a k n : ℕ) (xs ys : List ℕ) → a ≤ length xs → n ≤ length ys → take a xs ++ take n ys ≡ take (a + n) (put_mid a k xs ys)
take-put_mid a k n xs ys within fits =
    let new = put_mid a k xs ys in
    let front : take a new ≡ take a xs = take-put_mid_below _ _ _ _ _ (le_refl _) within in
    let same : (a + n) - a ≡ n = omega arith in
    let part : slice_range new a (a + n) ≡ take n ys =
    ap (take ((a + n) - a)) (drop_at (take a xs) (ys ++ post_of a k xs) a (length-take-le a xs within)) ∙ ap (λ m. take m (ys ++ post_of a k xs)) same ∙ take-append-le n ys (post_of a k xs) fits in
    ap (λ l. take a xs ++ l) (sym part) ∙ ap (λ l. l ++ slice_range new a (a + n)) (sym front) ∙ sym (take-add a ((a + n) - a) new) ∙ ap (λ m. take (a + m) new) same

pub loop-done-preserved : goal.loop-done-preserved
loop-done-preserved g c =
    let old = c.loop-done.buf in
    let joined = take-put_mid c.loop-done.done (length old - c.loop-done.done) c.in_ok-n.n old c.read.new.buf c.loop-done.invariant.1 c.in_ok-n.ensures.bound.0 in
    (search rules, search rules, subst (Consumes _ _) joined (Consumes-trans _ _ _ _ _ c.loop-done.invariant.2 c.in_ok-n.ensures.bytes.0))
