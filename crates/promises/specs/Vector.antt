-- When the choice takes a governor's pressure vector: each component in 0 to 1, by the check that would answer 7; and what the probe values of a run have to be for it.
use Rattle.std.specs.Prelude.{◌≡◌, true, false, List, [], ◌∷◌}
use Rattle.std.specs.Float.Ieee.{lt}
use Rattle.arith.specs.Floats.{f0}
use Rattle.kinds.specs.declared.vector.PressureVector.{PressureVector}
use Rattle.candidate_faults.specs.Candidates.{in_unit}
use Rattle.governor_promises.specs.Reading.{Observation, sampled, counted}

pub record InUnits (v : PressureVector) : Type 0 where
  pub l0 : in_unit v.l0 ≡ true
  pub deep_debt : in_unit v.deep_debt ≡ true
  pub read : in_unit v.read ≡ true

-- no probe value is a number below 0: a NaN, +infinity and -0 are none; an observation by the engine's counters brings no value, only counts
abbrev pub NoneBelow : List Observation → Type 0
NoneBelow [] = Unit {0}
NoneBelow (sampled x ∷ os) = (lt x.tables_probed_per_get f0 ≡ false) × NoneBelow os
NoneBelow (counted e a ∷ os) = NoneBelow os
