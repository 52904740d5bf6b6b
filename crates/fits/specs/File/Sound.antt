-- A writing that is not refused: what that says of the log and the room.
use Rattle.std.specs.Prelude.{◌≡◌, ℕ, ◌≤◌, false, List, [], ◌∷◌, length}
use Rattle.std.proofs.Common.{sym, ◌∙◌, ltb-false}
use Rattle.refusals.specs.Refusals.{◌gives◌, none, bad_log}
use Rattle.refusals.specs.Checks.{none_found}
use Rattle.decision_log.specs.declared.DecisionLog.{DecisionLog}
use Rattle.decision_log.specs.Log.{log_bad}
use Rattle.decision_log.specs.Log.Sound.{Sound, is_sound}
use Rattle.fits.specs.File.{log_fits, length_fault, length_of, fits_checks, fits_fault}
use Rattle.fits.specs.File.Laws.{file_length, log-length}

pub write_sound : (g : DecisionLog) (ws : List ℕ) (room : ℕ) → fits_fault g ws room ≡ none → Sound g (length ws) × (length (log_fits g ws) ≤ room)
unfolding fits_fault
write_sound g ws room e =
    let f = none_found (fits_checks g ws room) tt e in
    (is_sound g (length ws) f.0, ltb-false room (length (log_fits g ws)) f.1.0)

-- a log whose table has a length
pub record HasLength (g : DecisionLog) (ws : List ℕ) (n : ℕ) : Type 0 where
  pub good : log_bad g (length ws) ≡ false
  pub sound : Sound g (length ws)
  pub whole : n ≡ length (log_fits g ws)
  pub blocks : n ≡ file_length g.count

pub has_length : (g : DecisionLog) (ws : List ℕ) (n : ℕ) → none ≡ length_fault g (length ws) → n ≡ (length_of g ws).length → HasLength g ws n
unfolding length_fault
has_length g ws n e f =
    let b = (none_found (log_bad g (length ws) gives bad_log ∷ []) tt (sym e)).0 in
    let s = is_sound g (length ws) b in
    let w = simp b at f in
    record { good = b; sound = s; whole = w; blocks = w ∙ log-length g ws s }
