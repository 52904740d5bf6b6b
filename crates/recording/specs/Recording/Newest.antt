-- What one addition leaves: refused by 10 where the log is bad, and else the kept decisions with the new one at their end, the oldest gone where all places were kept, in a log that is good again.
use Rattle.std.specs.Prelude.{◌≡◌, Bool, List, ◌++◌, ℕ, ◌+◌, ◌-◌, ◌*◌, length}
use Rattle.std.proofs.Math.Path.{refl, ap}
use Rattle.std.proofs.Common.{sym, ◌∙◌}
use Rattle.std.proofs.Math.Bool.{true, false, cond}
use native.Mathlib.Omega.{arith}
use Rattle.std.proofs.Math.ListN.{drop}
use Rattle.std.proofs.Math.Dec.{ltb}
use borrow.Author.Tests.{ltb-true, ltb-false}
use Rattle.std.proofs.lemmas.List.Edits.{sets}
use Rattle.std.proofs.Math.Seq.{length-sets}
use Rattle.refusals.specs.Refusals.{none, bad_log}
use Rattle.decisions.specs.declared.SchedulingDecision.{SchedulingDecision}
use Rattle.decisions.specs.Decision.{decision_width, decision_words}
use Rattle.decision_log.specs.declared.DecisionLog.{DecisionLog}
use Rattle.decision_log.specs.Log.{max_kept, log_bad, kept_place, kept_from, kept_words}
use Rattle.next_log.specs.Next.{next_place, next_sequence}
use Rattle.recording.specs.Recording.{numbered, record_fault, recorded_of, recorded_words}
use Rattle.decision_log.specs.Log.Sound.{Sound, is_sound, sound-good}
use Rattle.recording.specs.Recording.Kept.{kept-grown, kept_replaced}

module _ (g : DecisionLog) (n : ℕ) where
  pub add-refused : log_bad g n ≡ true → (recorded_of g n).refusal ≡ bad_log
  unfolding recorded_of record_fault
  add-refused e = rw e

  pub add-accepted : log_bad g n ≡ false → (recorded_of g n).refusal ≡ none
  unfolding recorded_of record_fault
  add-accepted e = rw e

pub words-length : (d : SchedulingDecision) → length (decision_words d) ≡ decision_width
unfolding decision_words
words-length d = refl

module _ (g : DecisionLog) (ws : List ℕ) (d : SchedulingDecision) (good : log_bad g (length ws) ≡ false) where
  abbrev new : List ℕ
  new = decision_words (numbered d (next_sequence g))

  pub newest_kept : kept_words (recorded_of g (length ws)).log (recorded_words g ws d) ≡ drop (decision_width * (g.count + 1 - max_kept)) (kept_words g ws) ++ new
  unfolding recorded_of recorded_words record_fault next_place
  newest_kept = rw good (go (ltb g.count max_kept) refl (is_sound g (length ws) good))
    where
      go : (t : Bool) → ltb g.count max_kept ≡ t → Sound g (length ws)
          → kept_words (record { first = cond t g.first (kept_place g 1); count = cond t (g.count + 1) max_kept; sequence = next_sequence g }) (sets ws (decision_width * cond t (kept_place g g.count) g.first) new)
          ≡ drop (decision_width * (g.count + 1 - max_kept)) (kept_words g ws) ++ new
      go true t s =
          let e : g.count + 1 - max_kept ≡ 0 = omega (arith, ltb-true g.count max_kept t) in
          rw e (kept-grown g _ ws new s.long (words-length _) g.count refl (ltb-true g.count max_kept t))
      go false t s =
          let c : g.count ≡ max_kept = omega (arith, ltb-false g.count max_kept t, s.count) in
          let e : g.count + 1 - max_kept ≡ 1 = omega arith in
          kept_replaced g _ ws new s.long (words-length _) refl s.first ∙ rw (e, ap (kept_from g ws 0) (sym c))

  -- a good log stays good
  pub stays-good : log_bad (recorded_of g (length ws)).log (length (recorded_words g ws d)) ≡ false
  unfolding recorded_of recorded_words record_fault
  stays-good = rw good (sound-good _ _ (go (ltb g.count max_kept) refl (is_sound g (length ws) good)))
    where
      go : (t : Bool) → ltb g.count max_kept ≡ t → Sound g (length ws) → Sound (record { first = cond t g.first (kept_place g 1); count = cond t (g.count + 1) max_kept; sequence = next_sequence g }) (length (sets ws (decision_width * next_place g) new))
      go true t s = record { long = length-sets ws _ new ∙ s.long; first = s.first; count = omega (arith, ltb-true g.count max_kept t) }
      go false t s = record { long = length-sets ws _ new ∙ s.long; first = omega arith; count = omega arith }
