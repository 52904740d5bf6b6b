-- Where a mode's time up to now fits a u64, the times after it have that very sum, and what they come to goes up with the kept reading.
-- Assumes nothing.
use Rattle.std.specs.Prelude.{◌≡◌, ℕ, ◌+◌, ◌-◌, ◌^◌, ◌≤◌}
use Rattle.std.proofs.Math.Nat.{min-eq_left}
use Rattle.std.proofs.Common.{arith}
use Rattle.kinds.specs.declared.mode.GovernorMode.{GovernorMode}
use Rattle.kinds.specs.declared.mode.GovernorMode.TheVariants.{Balanced, ReadProtect, WriteEmergency}
use Rattle.state.specs.declared.Times.{Times}
use Rattle.state.specs.Clock.{kept_of, time_in, total_of, time_up_to, times_of}

pub time_exact : (m : GovernorMode) (t : Times) (now : ℕ) → time_up_to m t now ≤ 2 ^ 64 - 1 → time_in m (times_of m t now) ≡ time_up_to m t now
unfolding times_of
time_exact Balanced t now h = min-eq_left h
time_exact ReadProtect t now h = min-eq_left h
time_exact WriteEmergency t now h = min-eq_left h

pub total_adds : (m : GovernorMode) (t : Times) (now : ℕ) → time_up_to m t now ≤ 2 ^ 64 - 1
    → total_of (times_of m t now) + t.last_transition ≡ total_of t + kept_of t now
unfolding times_of
total_adds Balanced t now h = omega (arith, h)
total_adds ReadProtect t now h = omega (arith, h)
total_adds WriteEmergency t now h = omega (arith, h)
