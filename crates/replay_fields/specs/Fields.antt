-- The six fields of a line, and the observation that they are. Definitions only.
pub mod Reading
use Rattle.std.specs.Prelude.{Option, Some, None, ℕ, cond, ◌&&◌, List, [], length, get_or, eqb}
use Rattle.std.specs.Float.{binary64}
use Rattle.std.specs.Float.Ieee.{of_bits}
use Rattle.numerals.specs.Numbers.{is_value, value_of, decimal_of, bits_of}
use Rattle.replay_fields.specs.declared.Observation.{Observation}

-- clock, L0 count, trigger, ratio bits, probe bits, backlog
unfoldable pub observation : Option ℕ → Option ℕ → Option ℕ → Option ℕ → Option ℕ → Option ℕ → Option Observation
observation clock l0 trigger ratio probes backlog =
    cond (is_value clock && (is_value l0 && (is_value trigger && (is_value ratio && (is_value probes && is_value backlog)))))
    (Some (record {
      now = value_of clock;
      sample =
          record {
            l0_count = value_of l0;
            l0_write_stall_trigger = value_of trigger;
            max_level_debt_ratio = of_bits binary64 (value_of ratio);
            tables_probed_per_get = of_bits binary64 (value_of probes);
            backlog_levels = value_of backlog;
          };
    }))
    None

abbrev pub field : ℕ → List (List ℕ) → List ℕ
field i fs = get_or fs i []

-- six fields, each a number of its kind
unfoldable pub line_of : List (List ℕ) → Option Observation
line_of fs =
    cond (eqb (length fs) 6)
    (observation (decimal_of (field 0 fs)) (decimal_of (field 1 fs)) (decimal_of (field 2 fs)) (bits_of (field 3 fs)) (bits_of (field 4 fs)) (decimal_of (field 5 fs)))
    None
