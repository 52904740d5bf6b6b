-- The output for any text is at most 1,179,648 bytes long: at most 65,536 lines, each of at most 18 bytes.
use Rattle.std.specs.Prelude.{◌≡◌, Option, Some, None, ℕ, suc, ◌+◌, ◌*◌, ◌≤◌, ◌<◌, Bool, true, false, cond, not, List, [], ◌∷◌, length, ltb, Float}
use Rattle.std.proofs.Common.{arith, length-append, ltb-false, le-ltb}
use Rattle.refusals.specs.Refusals.{none}
use Rattle.state.specs.declared.GovernorState.{GovernorState}
use Rattle.kinds.specs.declared.mode.GovernorMode.{GovernorMode}
use Rattle.kinds.specs.declared.mode.GovernorMode.TheVariants.{Balanced, ReadProtect, WriteEmergency}
use Rattle.kinds.specs.declared.vector.PressureSource.{PressureSource}
use Rattle.kinds.specs.declared.vector.PressureSource.TheVariants.{None as Nothing, L0, DeepDebt, Read}
use Rattle.kinds.specs.Tuning.{source}
use Rattle.kinds.specs.Numbers.{mode_number, dominant_number}
use Rattle.state.specs.State.{fresh_of}
use Rattle.counts.specs.Counts.{any_large}
use Rattle.governor.specs.Observe.{counters_full, observe_fault, observed_of}
use Rattle.sound.specs.Sound.{sound_of}
use Rattle.pressure.specs.Pacing.{pacing_of}
use Rattle.kinds.specs.Vector.{dominant_of}
use Rattle.pressure.specs.Pacing.Bounds.{delay_most}
use Rattle.replay_fields.specs.declared.Observation.{Observation}
use Rattle.lists.specs.Tests.{by-test}
use Rattle.replay_text.specs.Lines.{lines_of, fields_of}
use Rattle.replay_text.specs.Lines.Lengths.{lines-few}
use Rattle.numerals.specs.Numbers.Digits.{digits-few}
use Rattle.replay_fields.specs.Fields.{line_of}
use Rattle.replay_lines.specs.Replay.{five, printed, observe_line, replay_from, replay_of, replayed_of}

-- ---- one line

five-few : (a b c d e : ℕ) → a < 100000 → b < 10 → c < 10 → d < 10 → e < 100000 → length (five a b c d e) ≤ 18
five-few a b c d e ha hb hc hd he =
    simp length-append (omega (arith, digits-few 4 19 a ha, digits-few 0 19 b hb, digits-few 0 19 c hc, digits-few 0 19 d hd, digits-few 4 19 e he))

mode-few : (m : GovernorMode) → mode_number m < 10
mode-few Balanced = omega arith
mode-few ReadProtect = omega arith
mode-few WriteEmergency = omega arith

dominant-few : (d : PressureSource) → dominant_number d < 10
dominant-few Nothing = omega arith
dominant-few L0 = omega arith
dominant-few DeepDebt = omega arith
dominant-few Read = omega arith

delay_few : (m : GovernorMode) (x : Float) → pacing_of m x < 100000
delay_few Balanced x = omega (arith, delay_most Balanced x)
delay_few ReadProtect x = omega (arith, delay_most ReadProtect x)
delay_few WriteEmergency x = omega (arith, delay_most WriteEmergency x)

fault_few : (a b c : Bool) → cond a 1 (cond b 2 (cond c 3 0)) < 10
fault_few true b c = omega arith
fault_few false true c = omega arith
fault_few false false true = omega arith
fault_few false false false = omega arith

refusal-few : (s : GovernorState) (l : Option Observation) → (observe_line s l).refusal < 10
unfolding observed_of observe_fault
refusal-few s (Some l) =
    let p = l.sample in fault_few (not (sound_of source s.mode s.streaks)) (any_large p.l0_count p.l0_write_stall_trigger p.backlog_levels) (counters_full source s l.now p)
refusal-few s None = omega arith

pub printed-few : (n : ℕ) (s : GovernorState) (l : Option Observation) → n < 100000 → length (printed n (observe_line s l)) ≤ 18
printed-few n s l h =
    let t = (observe_line s l).state in
    five-few n _ _ _ _ h (refusal-few s l) (mode-few t.mode) (dominant-few (dominant_of t.signals.pressure_vector)) (delay_few t.mode t.signals.last_pressure)

-- ---- all lines

run-few : (s : GovernorState) (n : ℕ) (ls : List (List ℕ)) → n + length ls ≤ 100000 → length (replay_from s n ls) ≤ 18 * length ls
unfolding replay_from
run-few s n [] h = omega arith
run-few s n (l ∷ ls) h =
    let o = observe_line s (line_of (fields_of l)) in
    omega (arith, length-append (printed n o) (replay_from o.state (suc n) ls), printed-few n s (line_of (fields_of l)) (omega arith), run-few o.state (suc n) ls (omega arith))

pub output-most : (bytes : List ℕ) → length (replay_of bytes) ≤ 1179648
unfolding replay_of
output-most bytes =
    by-test (λ (l : List ℕ). length l ≤ 1179648) (ltb 65536 (length bytes)) [] _ (λ _. omega arith) λ e.
    let h : length (lines_of bytes) ≤ 65536 = omega (arith, lines-few bytes, ltb-false 65536 (length bytes) e) in
    omega (arith, run-few (fresh_of 0) 1 (lines_of bytes) (omega arith))

-- a buffer of that many bytes is never refused
pub room-enough : (bytes : List ℕ) → (replayed_of bytes 1179648).refusal ≡ none
room-enough bytes = rw (le-ltb _ _ (output-most bytes))
