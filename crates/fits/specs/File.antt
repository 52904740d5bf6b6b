-- The log's table: what is refused, how long it is, and what is written to a buffer. Definitions only.
pub mod Laws
pub mod Sound
use Rattle.std.specs.Prelude.{ℕ, List, [], ◌∷◌, length, ltb}
use Rattle.refusals.specs.Refusals.{Check, ◌gives◌, first_fault, bad_log, no_room}
use Rattle.refusals.specs.Written.{Written, written_of, written_out}
use Rattle.decision_log.specs.declared.DecisionLog.{DecisionLog}
use Rattle.decision_log.specs.Log.{log_bad, kept_words}
use Rattle.fits.specs.Rows.{fits_of}

-- the kept decisions, oldest first, their words undecoded
abbrev pub log_fits : DecisionLog → List ℕ → List ℕ
log_fits g ws = fits_of (kept_words g ws)

-- 10
unfoldable pub length_fault : DecisionLog → ℕ → ℕ
length_fault g n = first_fault (log_bad g n gives bad_log ∷ [])

abbrev pub length_of : DecisionLog → List ℕ → Written
length_of g ws = written_of (length_fault g (length ws)) (log_fits g ws)

-- 10, 9
abbrev pub fits_checks : DecisionLog → List ℕ → ℕ → List Check
fits_checks g ws room = log_bad g (length ws) gives bad_log ∷ ltb room (length (log_fits g ws)) gives no_room ∷ []

unfoldable pub fits_fault : DecisionLog → List ℕ → ℕ → ℕ
fits_fault g ws room = first_fault (fits_checks g ws room)

abbrev pub fits_written : DecisionLog → List ℕ → ℕ → Written
fits_written g ws room = written_of (fits_fault g ws room) (log_fits g ws)

abbrev pub fits_out : DecisionLog → List ℕ → List ℕ → List ℕ
fits_out g ws out = written_out (fits_fault g ws (length out)) (log_fits g ws) out
