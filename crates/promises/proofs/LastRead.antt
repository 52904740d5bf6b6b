-- Whatever was added one by one to an empty log: the last 4,096 are read back, in order, with their sequences.
use mathlib.Core.Path.{◌≡◌}
use Prim.Native.Nat.{ℕ, ◌*◌, ◌≤◌, min}
use mathlib.Core.List.{List, ◌++◌}
use lib.ListN.{length, drop}
use Rattle.refusals.specs.Refusals.{none}
use Rattle.decisions.specs.declared.SchedulingDecision.{SchedulingDecision}
use Rattle.decisions.specs.Decision.{decision_width}
use Rattle.decision_log.specs.Log.{max_kept, log_words}
use Rattle.recording.specs.Recording.Run.{started, run, numbered_from, last_of, joined}
use Rattle.recording.specs.Recording.Last.{last-good, last-count, last-kept}
use Rattle.recent.specs.Recent.{recent_of, recent_out}
use Rattle.recent.specs.Recent.Sound.{good-read}

-- to any buffer with room for them
pub last-read : (ws : List ℕ) → length ws ≡ log_words → (ds : List SchedulingDecision) (out : List ℕ) → decision_width * min (length ds) max_kept ≤ length out
    → (recent_of (run (started ws) ds).log (length (run (started ws) ds).words) (length out) ≡ record { refusal = none; count = min (length ds) max_kept })
    × (recent_out (run (started ws) ds).log (run (started ws) ds).words out
    ≡ joined (last_of max_kept (numbered_from 1 ds)) ++ drop (decision_width * min (length ds) max_kept) out)
last-read ws e ds out h =
    let s = run (started ws) ds in
    let n = last-count ws e ds in
    let r = good-read s.log s.words out (last-good ws e ds) (rw n h) in
    rw (last-kept ws e ds, n) at r
