-- Answers as words, and the number that a call with a lent buffer for them gives. Definitions only.
pub mod Told
pub mod Reading
use Rattle.std.specs.Prelude.{ℕ, cond, List, [], ◌∷◌, get_or, replicate, leb, ltb, eqb, Float, Option}
use Rattle.std.specs.Float.{binary64}
use Rattle.std.specs.Float.Ieee.{of_bits, to_bits}
use Rattle.refusals.specs.Refusals.{none, no_room}
use Rattle.kinds.specs.Numbers.{mode_number, tier_number, winner_numbers}
use Rattle.state.specs.declared.GovernorState.{GovernorState}
use Rattle.pressure.specs.Pacing.{pacing_of}
use Rattle.snapshot.specs.Snapshot.{SnapshotAnswer, Stats, Refused, figures}
use Rattle.choice.specs.PickAnswer.{PickAnswer}
use Rattle.state_words.specs.StateWords.{no_such_case, mode_from, focus_flag, focus_level, is_state, state_in}

-- the call's own refusal, then 9 where so many words have no room
unfoldable pub answer_fault : ℕ → ℕ → ℕ → ℕ
answer_fault refusal words room = cond (eqb refusal none) (cond (ltb room words) no_room none) refusal

-- mode, pressure, vector, focus
unfoldable pub reading_words : GovernorState → List ℕ
reading_words s =
    mode_number s.mode ∷ to_bits binary64 s.signals.last_pressure
    ∷ to_bits binary64 s.signals.pressure_vector.l0 ∷ to_bits binary64 s.signals.pressure_vector.deep_debt ∷ to_bits binary64 s.signals.pressure_vector.read
    ∷ focus_flag s.focus.current_focus ∷ focus_level s.focus.current_focus ∷ s.focus.streak
    ∷ []

-- the same off the words of a state
unfoldable pub reading_in : List ℕ → List ℕ
reading_in ws =
    get_or ws 1 0 ∷ to_bits binary64 (of_bits binary64 (get_or ws 4 0))
    ∷ to_bits binary64 (of_bits binary64 (get_or ws 6 0)) ∷ to_bits binary64 (of_bits binary64 (get_or ws 7 0)) ∷ to_bits binary64 (of_bits binary64 (get_or ws 8 0))
    ∷ get_or ws 9 0 ∷ get_or ws 10 0 ∷ get_or ws 11 0
    ∷ []

-- the mode's number, where the words are a state
unfoldable pub mode_or : List ℕ → ℕ → ℕ
mode_or ws old = cond (is_state ws) (mode_number (state_in ws).mode) old

-- the pause of a mode by its number; any other number is refused
unfoldable pub pacing_refusal : ℕ → ℕ
pacing_refusal mode = cond (leb mode 2) none no_such_case

unfoldable pub pacing_after : ℕ → Float → ℕ → ℕ
pacing_after mode pressure old = cond (leb mode 2) (pacing_of (mode_from mode) pressure) old

-- the figures of a snapshot; beside a refusal nobody gets the zeros
unfoldable pub figures_or : SnapshotAnswer → List ℕ
figures_or (Stats t) = figures t
figures_or (Refused n) = replicate {A = ℕ} 14 0

abbrev pub winner_flag : Option ℕ → ℕ
winner_flag w = get_or (winner_numbers w) 0 0

abbrev pub winner_place : Option ℕ → ℕ
winner_place w = get_or (winner_numbers w) 1 0

-- winner, focus, tier
unfoldable pub picked_words : PickAnswer → List ℕ
picked_words p =
    winner_flag p.winner ∷ winner_place p.winner
    ∷ focus_flag p.focus.current_focus ∷ focus_level p.focus.current_focus ∷ p.focus.streak
    ∷ tier_number p.tier
    ∷ []
