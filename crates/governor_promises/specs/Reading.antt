-- Demand 3: the mode read off the list of accepted observations, oldest first. No state, no streak: of the governor only the sample, the smoothing and the numbers are used.
use Rattle.std.specs.Prelude.{ℕ, ◌+◌, ◌-◌, ◌<◌, ◌≡◌, cond, ◌&&◌, ◌||◌, List, [], ◌∷◌, ◌++◌, T, ltb, length, Float}
use Rattle.std.specs.Float.{binary64}
use Rattle.std.specs.Float.Ieee.{div, le, lt}
use Rattle.arith.specs.Whole.{float_of}
use Rattle.kinds.specs.declared.mode.GovernorMode.{GovernorMode}
use Rattle.kinds.specs.declared.mode.GovernorMode.TheVariants.{Balanced, ReadProtect, WriteEmergency}
use Rattle.pressure.specs.declared.PressureSample.{PressureSample}
use Rattle.windows.specs.declared.EngineSample.{EngineSample}
use Rattle.windows.specs.declared.ReadAmpStats.{ReadAmpStats}
use Rattle.pressure.specs.Sample.{fraction_of}
use Rattle.pressure.specs.Smoothing.{smoothed_of}
use Rattle.kinds.specs.Tuning.{Tuning}
use Rattle.arith.specs.Floats.{f0}

-- ---- the list

-- an observation: by a sample, or by the engine's own counters
pub data Observation : Type 0 where
  sampled : PressureSample → Observation
  counted : EngineSample → ReadAmpStats → Observation

-- what the reading looks at of one: its L0 fraction, its debt ratio, and the smoothed probe count after it
pub record Seen : Type 0 where
  pub fraction : Float
  pub ratio : Float
  pub smooth : Float

-- an engine sample's fraction is that of a sample with the same counts
abbrev pub as_sample : EngineSample → Float → PressureSample
as_sample e probes =
    record {
      l0_count = e.l0_count;
      l0_write_stall_trigger = e.l0_write_stall_trigger;
      max_level_debt_ratio = e.max_level_debt_ratio;
      tables_probed_per_get = probes;
      backlog_levels = e.backlog_levels;
    }

-- tables probed so far, and gets resolved by a table so far
abbrev pub probed_by : ReadAmpStats → ℕ
probed_by a = a.l0_tables_probed + a.leveled_tables_probed

abbrev pub resolved_by : ReadAmpStats → ℕ
resolved_by a = a.gets_total - a.resolved_in_memtable - a.resolved_in_immutable

-- probes for each get since the counters stood at p and r; with no get resolved since, the smoothed count itself
abbrev pub probes_since : ℕ → ℕ → Float → ReadAmpStats → Float
probes_since p r smooth a = cond (ltb 0 (resolved_by a - r)) (div binary64 (float_of (probed_by a - p)) (float_of (resolved_by a - r))) smooth

abbrev pub seen_of : PressureSample → Float → Seen
seen_of x smooth = record { fraction = fraction_of x; ratio = x.max_level_debt_ratio; smooth = smooth }

-- the list as it is looked at, the smoothed count and the counters standing at some values before it
unfoldable pub seen_from : Float → ℕ → ℕ → List Observation → List Seen
seen_from smooth p r [] = []
seen_from smooth p r (sampled x ∷ xs) =
    let s = smoothed_of smooth x.tables_probed_per_get in
    seen_of x s ∷ seen_from s p r xs
seen_from smooth p r (counted e a ∷ xs) =
    let s = smoothed_of smooth (probes_since p r smooth a) in
    seen_of (as_sample e smooth) s ∷ seen_from s (probed_by a) (resolved_by a) xs

-- a fresh governor's count is 0, and so are its counters
abbrev pub seen : List Observation → List Seen
seen xs = seen_from f0 0 0 xs

-- ---- the words of the demand

abbrev pub IsHot : Tuning → Seen → Type 0
IsHot G x = T (le G.enter_fraction x.fraction || le G.enter_ratio x.ratio)

abbrev pub HasRecovered : Tuning → Seen → Type 0
HasRecovered G x = T (le x.fraction G.exit_fraction && le x.ratio G.exit_ratio)

abbrev pub IsHigh : Tuning → Seen → Type 0
IsHigh G x = T (le G.enter_probed x.smooth)

abbrev pub IsCalm : Tuning → Seen → Type 0
IsCalm G x = T (le x.smooth G.exit_probed)

abbrev pub Each : (Seen → Type 0) → List Seen → Type 0
Each P [] = Unit {0}
Each P (x ∷ xs) = P x × Each P xs

-- some n in a row are P
pub record InARow (n : ℕ) (P : Seen → Type 0) (xs : List Seen) : Type 0 where
  pub before : List Seen
  pub row : List Seen
  pub after : List Seen
  pub split : xs ≡ before ++ row ++ after
  pub long : length row ≡ n
  pub each : Each P row

-- some observation was hot, and no three in a row after it had recovered
pub record InEmergency (G : Tuning) (xs : List Seen) : Type 0 where
  pub before : List Seen
  pub x : Seen
  pub after : List Seen
  pub split : xs ≡ before ++ x ∷ after
  pub hot : IsHot G x
  pub since : ¬ InARow G.exit_emergency (HasRecovered G) after

-- three in a row, the first arriving outside WriteEmergency, were high with none of them hot; none since was hot, nor four in a row calm
pub record InReadProtect (G : Tuning) (xs : List Seen) : Type 0 where
  pub before : List Seen
  pub row : List Seen
  pub after : List Seen
  pub split : xs ≡ before ++ row ++ after
  pub outside : ¬ InEmergency G before
  pub long : length row ≡ G.enter_read_protect
  pub each : Each (λ (y : Seen). IsHigh G y × ¬ IsHot G y) row
  pub cool : Each (λ (y : Seen). ¬ IsHot G y) after
  pub since : ¬ InARow G.exit_read_protect (IsCalm G) after

-- the mode that a list reads as
abbrev pub ReadsAs : Tuning → List Seen → GovernorMode → Type 0
ReadsAs G xs WriteEmergency = InEmergency G xs
ReadsAs G xs ReadProtect = InReadProtect G xs
ReadsAs G xs Balanced = (¬ InEmergency G xs) × (¬ InReadProtect G xs)

-- each leaving threshold is strictly below its entering one, and each window is one or more
pub record Apart (G : Tuning) : Type 0 where
  pub fraction : T (lt G.exit_fraction G.enter_fraction)
  pub ratio : T (lt G.exit_ratio G.enter_ratio)
  pub probed : T (lt G.exit_probed G.enter_probed)
  pub exits : 0 < G.exit_emergency
  pub enters : 0 < G.enter_read_protect
  pub leaves : 0 < G.exit_read_protect
