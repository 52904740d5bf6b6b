-- What `vector_in_unit` asks of a run is needed: one sample with -1.0 probes for each get is accepted, and leaves a read component below 0.
use mathlib.Core.Path.{◌≡◌, refl}
use mathlib.Core.Bool.{Bool, false}
use mathlib.Core.List.{List, [], ◌∷◌}
use lib.Dec.{not_T}
use lib.Ieee.{Float, binary64, of_bits, of_int, is_nan, sub, add, mul, div, lt, le}
use lib.Ieee.Bits.{is_false}
use lib.Ieee.Fits.{and_l}
use Rattle.arith.specs.Floats.{f0, f1, minimum_of}
use Rattle.arith.specs.Floats.Order.{le_trans}
use Rattle.arith.specs.Floats.Clamp.{minimum_le}
use Rattle.kinds.specs.Tuning.{read_protect_enter_tables_probed}
use Rattle.candidate_faults.specs.Candidates.{in_unit}
use Rattle.modes.specs.Mode.{next_mode_of}
use Rattle.sound.specs.Sound.{sound_of}
use Rattle.pressure.specs.Sample.{fraction_of}
use Rattle.pressure.specs.Smoothing.{smoothed_of}
use Rattle.pressure.specs.Pressure.{components_of, blended_of, signals_of}
use Rattle.governor.specs.Observe.{counters_full, observe_fault, accepted_of, observed_of}
use Rattle.governor_promises.specs.Calls.{Action, after}
use Rattle.promises.specs.Rows.{sample, at_zero}
use Rattle.promises.proofs.Vector.{reached}

abbrev minus_one : List Action
minus_one = at_zero (sample 0 4 0 0xbff0000000000000) ∷ []

pub below_out : in_unit (reached 0 minus_one).read ≡ false
unfolding in_unit after observed_of observe_fault accepted_of counters_full sound_of next_mode_of signals_of blended_of components_of fraction_of smoothed_of of_int of_bits lt le is_nan sub add mul div
below_out =
    let read : Bool = in_unit (reached 0 minus_one).read in
    let q : Float = div binary64 (smoothed_of f0 (of_bits binary64 0xbff0000000000000)) read_protect_enter_tables_probed in
    is_false read (not_T read (λ t. le_trans f0 (minimum_of q f1) q (and_l (le f0 (minimum_of q f1)) (le (minimum_of q f1) f1) t) (minimum_le q f1 refl refl).0))
