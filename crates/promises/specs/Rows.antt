-- 01's rows marked P: one list, each row read through the contracts' own definitions.
use Rattle.std.specs.Prelude.{ℕ, Bool, true, false, ◌&&◌, List, [], ◌∷◌, ◌++◌, map, eqb, length}
use Rattle.std.specs.Float.{binary64}
use Rattle.std.specs.Float.Ieee.{of_bits}
use Rattle.refusals.specs.Refusals.{none}
use Rattle.kinds.specs.declared.mode.GovernorMode.{GovernorMode}
use Rattle.kinds.specs.declared.mode.GovernorMode.TheVariants.{Balanced, ReadProtect, WriteEmergency}
use Rattle.pressure.specs.declared.PressureSample.{PressureSample}
use Rattle.kinds.specs.Tuning.{source}
use Rattle.kinds.specs.Numbers.{mode_number, dominant_number, focus_numbers, winner_numbers, tier_number}
use Rattle.state.specs.State.{fresh_of}
use Rattle.pressure.specs.Pacing.{pacing_of}
use Rattle.kinds.specs.Vector.{dominant_of}
use Rattle.candidates.specs.Generate.{generate_input, GenerateInput, candidate_words, number_words, generated_of}
use Rattle.estimate_faults.specs.Faults.{estimate_input, EstimateInput}
use Rattle.estimates.specs.Estimate.Call.{estimate_words, estimated_of}
use Rattle.choice.specs.PickAnswer.{PickAnswer}
use Rattle.choice.specs.Choice.{no_focus}
use Rattle.choice.specs.Choice.Call.{picked_of}
use Rattle.governor_promises.specs.Reading.{sampled}
use Rattle.governor_promises.specs.Calls.{Action, observe, modes, accepted}

-- floats stand as their bits
pub data Row : Type 0 where
  -- a mode, a pressure, and the pause in nanoseconds
  pause : GovernorMode → ℕ → ℕ → Row
  -- samples given to a fresh governor, all at clock 0, and the mode's number after each
  run : List PressureSample → List ℕ → Row
  -- the vector's three components, and the dominant's number
  dominant : ℕ → ℕ → ℕ → ℕ → Row
  -- tables with no focus before: what is lent to generation, the next number, the vector's three components; the candidates' words, the numbers, and the choice in numbers
  choice : GenerateInput → ℕ → ℕ → ℕ → ℕ → List ℕ → List ℕ → List ℕ → Row

abbrev pub sample : ℕ → ℕ → ℕ → ℕ → PressureSample
sample count trigger ratio probes =
    record {
      l0_count = count;
      l0_write_stall_trigger = trigger;
      max_level_debt_ratio = of_bits binary64 ratio;
      tables_probed_per_get = of_bits binary64 probes;
      backlog_levels = 0;
    }

abbrev pub at_zero : PressureSample → Action
at_zero x = observe 0 (sampled x)

abbrev pub equal : List ℕ → List ℕ → Bool
equal [] [] = true
equal [] (n ∷ ns) = false
equal (m ∷ ms) [] = false
equal (m ∷ ms) (n ∷ ns) = eqb m n && equal ms ns

-- refusal, winner, focus, streak, tier
abbrev pub choice_numbers : PickAnswer → List ℕ
choice_numbers p = p.refusal ∷ winner_numbers p.winner ++ focus_numbers p.focus.current_focus ++ p.focus.streak ∷ tier_number p.tier ∷ []

abbrev pub estimating : GenerateInput → ℕ → EstimateInput
estimating q next = estimate_input q.tables next q.over (candidate_words q) (number_words q)

-- a row holds of a port that accepts: each sample of a run, and generation and estimation into buffers with no word to spare
unfoldable pub holds : Row → Bool
holds (pause mode pressure nanoseconds) = eqb (pacing_of mode (of_bits binary64 pressure)) nanoseconds
holds (run samples numbers) =
    eqb (length (accepted source (fresh_of 0) (map at_zero samples))) (length samples)
    && equal (map mode_number (modes source (fresh_of 0) (map at_zero samples))) numbers
holds (dominant x y z number) =
    eqb (dominant_number (dominant_of (record { l0 = of_bits binary64 x; deep_debt = of_bits binary64 y; read = of_bits binary64 z }))) number
holds (choice q next x y z words numbers picked) =
    eqb (generated_of q (length words) (length numbers)).refusal none
    && (eqb (estimated_of (estimating q next) (length (estimate_words (estimating q next)))).refusal none
    && (equal (candidate_words q) words
    && (equal (number_words q) numbers
    && equal (choice_numbers (picked_of (record { l0 = of_bits binary64 x; deep_debt = of_bits binary64 y; read = of_bits binary64 z }) no_focus (candidate_words q) (estimate_words (estimating q next)))) picked)))

unfoldable pub all : List Row → Bool
all [] = true
all (r ∷ rs) = holds r && all rs

-- 3 of 4 L0, 0 of 4, 2 of 4, 100 of 0 with a NaN ratio, and 10.0 probes for each get
abbrev hot_one : PressureSample
hot_one = sample 3 4 0 0

abbrev recovered_one : PressureSample
recovered_one = sample 0 4 0 0

abbrev neither : PressureSample
neither = sample 2 4 0 0

abbrev untriggered : PressureSample
untriggered = sample 100 0 0x7ff8000000000000 0

abbrev probing : PressureSample
probing = sample 0 4 0 0x4024000000000000

-- 7 (level 1, c to d, 100), 3 (1, a to b, 50), 9 (1, e to f, 10), 4 (2, d to e, 30) over the key bytes abcdef
abbrev four_tables : GenerateInput
four_tables =
    generate_input
    (7 ∷ 1 ∷ 100 ∷ 2 ∷ 1 ∷ 3 ∷ 1
    ∷ 3 ∷ 1 ∷ 50 ∷ 0 ∷ 1 ∷ 1 ∷ 1
    ∷ 9 ∷ 1 ∷ 10 ∷ 4 ∷ 1 ∷ 5 ∷ 1
    ∷ 4 ∷ 2 ∷ 30 ∷ 3 ∷ 1 ∷ 4 ∷ 1
    ∷ [])
    (97 ∷ 98 ∷ 99 ∷ 100 ∷ 101 ∷ 102 ∷ []) 4 (1 ∷ 100 ∷ [])

unfoldable pub rows : List Row
rows =
    -- P1: pressure 0 and 0.5
    pause Balanced 0 20000
    ∷ pause Balanced 0x3fe0000000000000 12500
    -- P2: pressure 0 and 0.25
    ∷ pause ReadProtect 0 40000
    ∷ pause ReadProtect 0x3fd0000000000000 31250
    -- P3: NaN
    ∷ pause Balanced 0x7ff8000000000000 5000
    ∷ pause ReadProtect 0x7ff8000000000000 5000
    ∷ pause WriteEmergency 0x7ff8000000000000 5000
    -- P4
    ∷ run (hot_one ∷ []) (2 ∷ [])
    -- P5: after two, and after three
    ∷ run (hot_one ∷ recovered_one ∷ recovered_one ∷ []) (2 ∷ 2 ∷ 2 ∷ [])
    ∷ run (hot_one ∷ recovered_one ∷ recovered_one ∷ recovered_one ∷ []) (2 ∷ 2 ∷ 2 ∷ 0 ∷ [])
    -- P6
    ∷ run (hot_one ∷ recovered_one ∷ recovered_one ∷ neither ∷ recovered_one ∷ recovered_one ∷ []) (2 ∷ 2 ∷ 2 ∷ 2 ∷ 2 ∷ 2 ∷ [])
    -- P7
    ∷ run (untriggered ∷ []) (0 ∷ [])
    -- P8
    ∷ run (probing ∷ probing ∷ probing ∷ []) (0 ∷ 0 ∷ 1 ∷ [])
    -- P9: (0.05, 0, 0) and (0.5, 0.5, 0.5)
    ∷ dominant 0x3fa999999999999a 0 0 0
    ∷ dominant 0x3fe0000000000000 0x3fe0000000000000 0x3fe0000000000000 1
    -- P10: next number 10, vector (0, 1, 0)
    ∷ choice four_tables 10 0 0x3ff0000000000000 0
    (2 ∷ 1 ∷ 1 ∷ 2 ∷ 0 ∷ 1
    ∷ 2 ∷ 1 ∷ 2 ∷ 2 ∷ 1 ∷ 3
    ∷ 2 ∷ 1 ∷ 3 ∷ 2 ∷ 4 ∷ 4
    ∷ 3 ∷ 1 ∷ 0 ∷ 2 ∷ 8 ∷ 1
    ∷ [])
    (3 ∷ 3 ∷ 7 ∷ 4 ∷ 3 ∷ 7 ∷ 9 ∷ 4 ∷ 3 ∷ [])
    (0 ∷ 1 ∷ 3 ∷ 1 ∷ 1 ∷ 1 ∷ 3 ∷ [])
    ∷ []
