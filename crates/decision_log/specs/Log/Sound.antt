-- A log that is not refused: its words, its first place and its count.
use Rattle.std.specs.Prelude.{◌≡◌, ℕ, ◌≤◌, ◌<◌, false}
use Rattle.std.proofs.Common.{eq-eqb, le-ltb, ltb-false, leb-false, eqb-true}
use Rattle.std.proofs.lemmas.Bool.{lt-leb, not-false}
use Rattle.decision_log.specs.declared.DecisionLog.{DecisionLog}
use Rattle.lists.specs.Tests.{neither}
use Rattle.decision_log.specs.Log.{max_kept, log_words, log_bad}

pub record Sound (g : DecisionLog) (n : ℕ) : Type 0 where
  pub long : n ≡ log_words
  pub first : g.first < max_kept
  pub count : g.count ≤ max_kept

pub is_sound : (g : DecisionLog) (n : ℕ) → log_bad g n ≡ false → Sound g n
unfolding log_bad
is_sound g n e =
    let l = neither _ _ e in
    let f = neither _ _ l.1 in
    record { long = eqb-true n log_words (not-false _ l.0); first = leb-false max_kept g.first f.0; count = ltb-false max_kept g.count f.1 }

pub sound-good : (g : DecisionLog) (n : ℕ) → Sound g n → log_bad g n ≡ false
unfolding log_bad
sound-good g n s = rw (eq-eqb n log_words s.long, lt-leb max_kept g.first s.first, le-ltb max_kept g.count s.count)
