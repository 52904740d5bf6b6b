-- What one observation says: its L0 fraction. Definitions only.
use Rattle.std.specs.Prelude.{cond, ltb, Float}
use Rattle.std.specs.Float.{binary64}
use Rattle.std.specs.Float.Ieee.{div}
use Rattle.arith.specs.Whole.{float_of}
use Rattle.pressure.specs.declared.PressureSample.{PressureSample}
use Rattle.arith.specs.Floats.{f0}

-- the binary64 quotient of L0 count and trigger, 0 with trigger 0
unfoldable pub fraction_of : PressureSample → Float
fraction_of p =
    cond (ltb 0 p.l0_write_stall_trigger) (div binary64 (float_of p.l0_count) (float_of p.l0_write_stall_trigger)) f0
