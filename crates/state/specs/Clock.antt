-- Elapsed time and the kept reading, one rule for observations and snapshots: the larger reading is kept, so a clock that went back adds 0 until it is past it again. Definitions only.
pub mod Exact
use Rattle.std.specs.Prelude.{ℕ, ◌+◌, ◌-◌, max}
use Rattle.counts.specs.Counts.{saturating_add}
use Rattle.kinds.specs.declared.mode.GovernorMode.{GovernorMode}
use Rattle.kinds.specs.declared.mode.GovernorMode.TheVariants.{Balanced, ReadProtect, WriteEmergency}
use Rattle.state.specs.declared.Times.{Times}

abbrev pub elapsed_of : Times → ℕ → ℕ
elapsed_of t now = now - t.last_transition

-- the reading that is kept: the larger
abbrev pub kept_of : Times → ℕ → ℕ
kept_of t now = max t.last_transition now

abbrev pub time_in : GovernorMode → Times → ℕ
time_in Balanced t = t.balanced
time_in ReadProtect t = t.read_protect
time_in WriteEmergency t = t.write_emergency

abbrev pub total_of : Times → ℕ
total_of t = t.balanced + t.read_protect + t.write_emergency

-- the mode's time up to now, which may not fit
abbrev pub time_up_to : GovernorMode → Times → ℕ → ℕ
time_up_to m t now = time_in m t + elapsed_of t now

abbrev pub time_after : GovernorMode → Times → ℕ → ℕ
time_after m t now = saturating_add (time_in m t) (elapsed_of t now)

-- the times with the mode's own up to now, which stops at the largest u64: no accepted call comes there (Clock/Exact)
unfoldable pub times_of : GovernorMode → Times → ℕ → Times
times_of Balanced t now =
    record { balanced = time_after Balanced t now; read_protect = t.read_protect; write_emergency = t.write_emergency; last_transition = kept_of t now }
times_of ReadProtect t now =
    record { balanced = t.balanced; read_protect = time_after ReadProtect t now; write_emergency = t.write_emergency; last_transition = kept_of t now }
times_of WriteEmergency t now =
    record { balanced = t.balanced; read_protect = t.read_protect; write_emergency = time_after WriteEmergency t now; last_transition = kept_of t now }
