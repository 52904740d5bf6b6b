-- The whole of `replay`, from bytes to bytes. Definitions only.
pub mod Room
pub mod Steps
use Rattle.std.specs.Prelude.{Option, Some, None, ℕ, suc, ◌≤◌, ◌≡◌, cond, List, [], ◌∷◌, ◌++◌, length, take, drop, ltb, eqb}
use Rattle.refusals.specs.Refusals.{◌gives◌, first_fault, none, bad_record, no_room}
use Rattle.state.specs.declared.GovernorState.{GovernorState}
use Rattle.kinds.specs.Tuning.{source}
use Rattle.kinds.specs.Numbers.{mode_number, dominant_number}
use Rattle.state.specs.State.{Observed, fresh_of}
use Rattle.governor.specs.Observe.{observed_of}
use Rattle.pressure.specs.Pacing.{pacing_of}
use Rattle.kinds.specs.Vector.{dominant_of}
use Rattle.replay_fields.specs.declared.Observation.{Observation}
use Rattle.replay_text.specs.Lines.{LF, comma, lines_of, fields_of}
use Rattle.numerals.specs.Numbers.{spelt}
use Rattle.replay_fields.specs.Fields.{line_of}

-- any other line counts as refusal 5, and leaves the state as it was
abbrev pub observe_line : GovernorState → Option Observation → Observed
observe_line s (Some l) = observed_of source s l.now l.sample
observe_line s None = record { refusal = bad_record; state = s }

-- five numbers, parted by commas and ended by LF
abbrev pub five : ℕ → ℕ → ℕ → ℕ → ℕ → List ℕ
five a b c d e = spelt a ++ comma ∷ spelt b ++ comma ∷ spelt c ++ comma ∷ spelt d ++ comma ∷ spelt e ++ LF ∷ []

-- line number, refusal, mode, dominant, delay
abbrev pub printed : ℕ → Observed → List ℕ
printed n o =
    five n o.refusal (mode_number o.state.mode) (dominant_number (dominant_of o.state.signals.pressure_vector))
    (pacing_of o.state.mode o.state.signals.last_pressure)

unfoldable pub replay_from : GovernorState → ℕ → List (List ℕ) → List ℕ
replay_from s n [] = []
replay_from s n (l ∷ ls) =
    let o = observe_line s (line_of (fields_of l)) in
    printed n o ++ replay_from o.state (suc n) ls

-- a fresh governor at clock 0, lines numbered from 1; more than 65,536 bytes print nothing
unfoldable pub replay_of : List ℕ → List ℕ
replay_of bytes = cond (ltb 65536 (length bytes)) [] (replay_from (fresh_of 0) 1 (lines_of bytes))

-- ---- the call over lent slices

abbrev pub replay_fault : List ℕ → ℕ → ℕ
replay_fault bytes room = first_fault (ltb room (length (replay_of bytes)) gives no_room ∷ [])

-- 9 where the output has no room, else its length
pub record Replayed : Type 0 where
  pub refusal : ℕ
  pub length : ℕ

abbrev pub replayed_of : List ℕ → ℕ → Replayed
replayed_of bytes room =
    record { refusal = replay_fault bytes room; length = cond (eqb (replay_fault bytes room) none) (length (replay_of bytes)) 0 }

abbrev pub replay_out : List ℕ → List ℕ → List ℕ
replay_out bytes old =
    cond (eqb (replay_fault bytes (length old)) none) (replay_of bytes ++ drop (length (replay_of bytes)) old) old

-- n counts bytes at the front of a list. The second part follows from the first; both are what lending `&out[..n]` asks.
abbrev pub Counts : ℕ → List ℕ → Type 0
Counts n out = (n ≤ length out) × (n ≡ length (take n out))
