-- The score of an estimate under a pressure vector, each step one operation of binary64. Definitions only.
pub mod Range
pub mod TotalOrder
use Rattle.std.specs.Prelude.{max, Float}
use Rattle.std.specs.Float.{binary64}
use Rattle.std.specs.Float.Ieee.{of_bits, add, mul, div}
use Rattle.arith.specs.Root.{root_of}
use Rattle.arith.specs.Logarithm.{ln_of}
use Rattle.kinds.specs.declared.vector.PressureVector.{PressureVector}
use Rattle.candidate_records.specs.declared.CandidateEstimate.{CandidateEstimate}

abbrev pub age_bonus_weight : Float
age_bonus_weight = of_bits binary64 0x3f847ae147ae147b

-- l0·l0_relief + debt·debt_relief + read·read_relief + log·weight, from the left
unfoldable pub benefit_of : PressureVector → CandidateEstimate → Float
benefit_of v e =
    add binary64
    (add binary64
    (add binary64 (mul binary64 v.l0 e.l0_relief) (mul binary64 v.deep_debt e.debt_relief))
    (mul binary64 v.read e.read_relief))
    (mul binary64 (ln_of e.age) age_bonus_weight)

unfoldable pub score_of : PressureVector → CandidateEstimate → Float
score_of v e = div binary64 (benefit_of v e) (root_of (max e.estimated_rewrite_bytes 1))
