-- 01: "its decimals are the binary64 nearest to them". Each number of the source beside its decimal, as a ratio of whole numbers.
use mathlib.Core.Path.{◌≡◌, refl}
use mathlib.Core.Bool.{false}
use Prim.Native.Nat.{ℕ}
use lib.Ieee.{Float, binary64, of_bits, round}
use Rattle.kinds.specs.Tuning as mode
use Rattle.kinds.specs.Vector.{f0·05}
use Rattle.pressure.specs.Smoothing.{ewma_alpha}
use Rattle.pressure.specs.Pressure.{readamp_weight, backlog_normalization}
use Rattle.pressure.specs.Pacing.{min_delay, max_delay, read_protect_max_delay}
use Rattle.scores.specs.Score.{age_bonus_weight}

-- the binary64 nearest to n / d
abbrev pub nearest : ℕ → ℕ → Float
nearest n d = round binary64 false n d

pub thresholds_nearest :
    (mode.write_emergency_enter_l0_fraction ≡ nearest 75 100)
    × (mode.write_emergency_enter_debt_ratio ≡ nearest 3 1)
    × (mode.write_emergency_exit_l0_fraction ≡ nearest 45 100)
    × (mode.write_emergency_exit_debt_ratio ≡ nearest 15 10)
    × (mode.read_protect_enter_tables_probed ≡ nearest 16 10)
    × (mode.read_protect_exit_tables_probed ≡ nearest 115 100)
    × (f0·05 ≡ nearest 5 100)
unfolding of_bits round
thresholds_nearest = (refl, refl, refl, refl, refl, refl, refl)

pub weights_nearest :
    (ewma_alpha ≡ nearest 3 10)
    × (readamp_weight ≡ nearest 3 10)
    × (backlog_normalization ≡ nearest 3 1)
    × (min_delay ≡ nearest 5000 1)
    × (max_delay ≡ nearest 20000 1)
    × (read_protect_max_delay ≡ nearest 40000 1)
    × (age_bonus_weight ≡ nearest 1 100)
unfolding of_bits round
weights_nearest = (refl, refl, refl, refl, refl, refl, refl)
