-- The dominant pressure of a vector. Definitions only.
use Rattle.std.specs.Prelude.{Float, cond}
use Rattle.std.specs.Float.{binary64}
use Rattle.std.specs.Float.Ieee.{of_bits, le}
use Rattle.kinds.specs.declared.vector.PressureSource.{PressureSource}
use Rattle.kinds.specs.declared.vector.PressureSource.TheVariants.{None as Nothing, L0, DeepDebt, Read}
use Rattle.arith.specs.Floats.{maximum_of}
use Rattle.kinds.specs.declared.vector.PressureVector.{PressureVector}

abbrev pub f0·05 : Float
f0·05 = of_bits binary64 0x3fa999999999999a

abbrev pub peak_of : PressureVector → Float
peak_of v = maximum_of (maximum_of v.l0 v.deep_debt) v.read

-- none at a peak of 0.05 or less; ties go L0, DeepDebt, Read
unfoldable pub dominant_of : PressureVector → PressureSource
dominant_of v =
    cond (le (peak_of v) f0·05) Nothing (cond (le (peak_of v) v.l0) L0 (cond (le (peak_of v) v.deep_debt) DeepDebt Read))
