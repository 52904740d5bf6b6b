-- The window over the engine's read counters since the last observation, and what refuses an observation before its sample is known. Definitions only.
use Rattle.std.specs.Prelude.{ℕ, ◌+◌, ◌-◌, ◌^◌, Bool, not, ◌||◌, List, [], ◌∷◌, ltb}
use Rattle.counts.specs.Counts.{large, any_large}
use Rattle.refusals.specs.Refusals.{Check, ◌gives◌, first_fault, bad_state, too_large, counter_full}
use Rattle.kinds.specs.Tuning.{Tuning}
use Rattle.kinds.specs.declared.mode.GovernorMode.{GovernorMode}
use Rattle.sound.specs.Sound.{sound_of}
use Rattle.state.specs.declared.Streaks.{Streaks}
use Rattle.state.specs.declared.Window.{Window}
use Rattle.windows.specs.declared.ReadAmpStats.{ReadAmpStats}
use Rattle.windows.specs.declared.EngineSample.{EngineSample}

-- exact: it may pass 2^64 - 1
abbrev pub probed_sum : ReadAmpStats → ℕ
probed_sum a = a.l0_tables_probed + a.leveled_tables_probed

abbrev pub resolved_sum : ReadAmpStats → ℕ
resolved_sum a = a.gets_total - a.resolved_in_memtable - a.resolved_in_immutable

-- what is new since the last observation, 0 where a sum fell
abbrev pub probed_since : Window → ReadAmpStats → ℕ
probed_since w a = probed_sum a - w.last_probed

abbrev pub resolved_since : Window → ReadAmpStats → ℕ
resolved_since w a = resolved_sum a - w.last_resolved

abbrev pub deltas_large : Window → ReadAmpStats → Bool
deltas_large w a = large (probed_since w a) || large (resolved_since w a)

abbrev pub window_checks : Tuning → GovernorMode → Streaks → Window → EngineSample → ReadAmpStats → List Check
window_checks G m k w e a =
    not (sound_of G m k) gives bad_state
    ∷ (any_large e.l0_count e.l0_write_stall_trigger e.backlog_levels || deltas_large w a) gives too_large
    ∷ ltb (2 ^ 64 - 1) (probed_sum a) gives counter_full
    ∷ []

unfoldable pub window_fault : Tuning → GovernorMode → Streaks → Window → EngineSample → ReadAmpStats → ℕ
window_fault G m k w e a = first_fault (window_checks G m k w e a)
