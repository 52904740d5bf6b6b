-- The nine numbers that say when a mode begins and ends, and the source's values of them. Definitions only.
use Rattle.std.specs.Prelude.{ℕ, Float}
use Rattle.std.specs.Float.{binary64}
use Rattle.std.specs.Float.Ieee.{of_bits}

-- by governor.rs's names: 0.75, 3.0, 0.45, 1.5 and 3; 1.6, 3, 1.15 and 4
abbrev pub write_emergency_enter_l0_fraction : Float
write_emergency_enter_l0_fraction = of_bits binary64 0x3fe8000000000000

abbrev pub write_emergency_enter_debt_ratio : Float
write_emergency_enter_debt_ratio = of_bits binary64 0x4008000000000000

abbrev pub write_emergency_exit_l0_fraction : Float
write_emergency_exit_l0_fraction = of_bits binary64 0x3fdccccccccccccd

abbrev pub write_emergency_exit_debt_ratio : Float
write_emergency_exit_debt_ratio = of_bits binary64 0x3ff8000000000000

abbrev pub write_emergency_exit_windows : ℕ
write_emergency_exit_windows = 3

abbrev pub read_protect_enter_tables_probed : Float
read_protect_enter_tables_probed = of_bits binary64 0x3ff999999999999a

abbrev pub read_protect_enter_windows : ℕ
read_protect_enter_windows = 3

abbrev pub read_protect_exit_tables_probed : Float
read_protect_exit_tables_probed = of_bits binary64 0x3ff2666666666666

abbrev pub read_protect_exit_windows : ℕ
read_protect_exit_windows = 4

-- six thresholds and three windows
pub record Tuning : Type 0 where
  pub enter_fraction : Float
  pub exit_fraction : Float
  pub enter_ratio : Float
  pub exit_ratio : Float
  pub enter_probed : Float
  pub exit_probed : Float
  pub exit_emergency : ℕ
  pub enter_read_protect : ℕ
  pub exit_read_protect : ℕ

abbrev pub source : Tuning
source =
    record {
      enter_fraction = write_emergency_enter_l0_fraction;
      exit_fraction = write_emergency_exit_l0_fraction;
      enter_ratio = write_emergency_enter_debt_ratio;
      exit_ratio = write_emergency_exit_debt_ratio;
      enter_probed = read_protect_enter_tables_probed;
      exit_probed = read_protect_exit_tables_probed;
      exit_emergency = write_emergency_exit_windows;
      enter_read_protect = read_protect_enter_windows;
      exit_read_protect = read_protect_exit_windows;
    }
