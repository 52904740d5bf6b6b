-- An observation without a fault has counters that are not full, and room for its switch.
-- Assumes nothing.
use Rattle.std.specs.Prelude.{◌≡◌, true, false, ℕ, ◌-◌, ◌^◌, ◌<◌, ltb}
use Rattle.std.proofs.Common.{sym}
use Rattle.lists.specs.Tests.{neither}
use Rattle.refusals.specs.Refusals.{none}
use Rattle.refusals.specs.Checks.{none_found}
use Rattle.kinds.specs.Tuning.{Tuning}
use Rattle.state.specs.declared.GovernorState.{GovernorState}
use Rattle.state.specs.Clock.{time_up_to}
use Rattle.state.specs.Room.{room_of}
use Rattle.pressure.specs.declared.PressureSample.{PressureSample}
use Rattle.governor.specs.Observe.{switches, switches_full, counters_full, observe_checks, observe_fault}

pub counters_room : (G : Tuning) (s : GovernorState) (now : ℕ) (p : PressureSample) → none ≡ observe_fault G s now p → counters_full G s now p ≡ false
unfolding observe_fault
counters_room G s now p e = (none_found (observe_checks G s now p) tt (sym e)).1.1.0

pub switch_room : (G : Tuning) (s : GovernorState) (now : ℕ) (p : PressureSample) → counters_full G s now p ≡ false → switches G s p ≡ true → s.counters.mode_switches < 2 ^ 64 - 1
unfolding counters_full
switch_room G s now p e h =
    let parts = neither (switches_full G s p) (ltb (2 ^ 64 - 1) (time_up_to s.mode s.times now)) e in
    room_of s.counters.mode_switches (simp h at parts.0)
