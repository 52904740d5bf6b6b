-- The pause of merge work, in nanoseconds. Definitions only.
pub mod Bounds
use Rattle.std.specs.Prelude.{ℕ, Float}
use Rattle.std.specs.Float.{binary64}
use Rattle.std.specs.Float.Ieee.{of_bits, sub, mul, to_unsigned}
use Rattle.kinds.specs.declared.mode.GovernorMode.{GovernorMode}
use Rattle.kinds.specs.declared.mode.GovernorMode.TheVariants.{Balanced, ReadProtect, WriteEmergency}
use Rattle.arith.specs.Floats.{clamp_of, maximum_of}

-- 5,000, 20,000 and 40,000
abbrev pub min_delay : Float
min_delay = of_bits binary64 0x40b3880000000000

abbrev pub max_delay : Float
max_delay = of_bits binary64 0x40d3880000000000

abbrev pub read_protect_max_delay : Float
read_protect_max_delay = of_bits binary64 0x40e3880000000000

abbrev pub ceiling_of : GovernorMode → Float
ceiling_of Balanced = max_delay
ceiling_of ReadProtect = read_protect_max_delay
ceiling_of WriteEmergency = max_delay

-- from the ceiling down to 5000 as the pressure, clamped to 0..1, goes up; at least 5000, the fraction dropped
unfoldable pub pacing_of : GovernorMode → Float → ℕ
pacing_of mode pressure =
    to_unsigned 64 (maximum_of (sub binary64 (ceiling_of mode) (mul binary64 (clamp_of pressure) (sub binary64 (ceiling_of mode) min_delay))) min_delay)
