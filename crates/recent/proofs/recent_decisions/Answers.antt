-- `recent::recent_decisions` meets its contract. The invariant: what is left to write is the kept decisions from the k-th on.
use Rattle.std.proofs.Common.{eq-eqb, ◌≡◌, sym, ◌∙◌, ◌+◌, ◌*◌, ◌-◌, ◌≤◌, ◌<◌, length, arith}
use Rattle.decision_log.specs.Log.Kept.{place-length, kept_next, kept-none}
use Rattle.recent.specs.Recent.Sound.{recent_sound}
use Rattle.decision_log.specs.Log.{max_kept, kept_place, place_words, kept_words}
use Rattle.recent.specs.Recent.{recent_of, recent_out}
use Rattle.decisions.specs.Decision.{decision_width}
use Rattle.lists.specs.Writes.{fill_start, fill-part, fill_end, sets_front}
use native.Mathlib.Nat.{sub-zero}
use Rattle.recent.proofs.recent_decisions.Goals as goal

pub loop-k-init : goal.loop-k-init
loop-k-init c = rw sub-zero (fill_start _ _ _)

pub overflow_mul-at : goal.overflow_mul-at
overflow_mul-at c = let s = recent_sound _ _ _ (sym c.in_ok-recent_fault.ensures) in omega arith

pub slice_bounds-put_words-end : goal.slice_bounds-put_words-end
slice_bounds-put_words-end c = let s = recent_sound _ _ _ (sym c.in_ok-recent_fault.ensures) in omega arith

pub loop-k-preserved : goal.loop-k-preserved
loop-k-preserved c = let a = c.args in
    let s = recent_sound _ _ _ (sym c.in_ok-recent_fault.ensures) in
    let e : decision_width * c.kept_place.result + decision_width - decision_width * c.kept_place.result ≡ decision_width = omega arith in
    let h : kept_place a.log c.loop-k.k < max_kept = omega arith in
    let n = place-length a.words.now (kept_place a.log c.loop-k.k) s.0.long h in
    fill-part _ _ _ _ _ (place_words a.words.now (kept_place a.log c.loop-k.k)) _ _ _ (rw (kept_next _ _ _ _ c.loop-k-test.true) at c.loop-k.invariant)
    (record { ends = omega arith; stands = c.put_words.ensures ∙ rw (e, c.kept_place.ensures) })

pub returns : goal.returns
unfolding recent_of recent_out
returns c = let f = c.in_ok-recent_fault.ensures in
    let e = eq-eqb _ _ (sym f) in
    let s = recent_sound _ _ _ (sym f) in
    let w = fill_end _ _ _ _ _ (rw (kept-none _ _ _ _ c.loop-k-test.false) at c.loop-k.invariant) in
    let a = c.args in
    let n : length (kept_words a.log a.words.now) ≡ decision_width * a.log.count = omega (arith, w.ends) in
    let h : length (kept_words a.log a.words.now) ≤ length a.out.now = omega arith in
    record { refusal = f; count = simp e; out_after = simp e (w.stands ∙ rw n at (sets_front (kept_words a.log a.words.now) a.out.now h)) }
