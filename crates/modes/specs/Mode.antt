-- The mode and its streaks, one observation at a time. Definitions only.
pub mod Windows
use Rattle.std.specs.Prelude.{ℕ, ◌+◌, Bool, cond, leb, Float}
use Rattle.kinds.specs.declared.mode.GovernorMode.{GovernorMode}
use Rattle.kinds.specs.declared.mode.GovernorMode.TheVariants.{Balanced, ReadProtect, WriteEmergency}
use Rattle.state.specs.declared.Streaks.{Streaks}
use Rattle.modes.specs.declared.NextMode.{NextMode}
use Rattle.kinds.specs.Tuning.{Tuning}
use Rattle.thresholds.specs.Thresholds.{hot, recovered, high, calm}

-- a streak after one more that passed its test or did not
abbrev pub next : Bool → ℕ → ℕ
next b k = cond b (k + 1) 0

-- a switch clears all three streaks
abbrev pub switched : GovernorMode → NextMode
switched m = record { mode = m; streaks = record { enter_read_protect = 0; exit_read_protect = 0; exit_emergency = 0 } }

abbrev pub stays : GovernorMode → ℕ → ℕ → ℕ → NextMode
stays m a b c = record { mode = m; streaks = record { enter_read_protect = a; exit_read_protect = b; exit_emergency = c } }

-- outside WriteEmergency a hot call enters it at once, before any streak is looked at
unfoldable pub next_mode_of : Tuning → GovernorMode → Streaks → Float → Float → Float → NextMode
next_mode_of G WriteEmergency k fraction ratio probed =
    let n = next (recovered G fraction ratio) k.exit_emergency in
    cond (leb G.exit_emergency n) (switched Balanced) (stays WriteEmergency k.enter_read_protect k.exit_read_protect n)
next_mode_of G Balanced k fraction ratio probed =
    let n = next (high G probed) k.enter_read_protect in
    cond (hot G fraction ratio) (switched WriteEmergency)
    (cond (leb G.enter_read_protect n) (switched ReadProtect) (stays Balanced n k.exit_read_protect k.exit_emergency))
next_mode_of G ReadProtect k fraction ratio probed =
    let n = next (calm G probed) k.exit_read_protect in
    cond (hot G fraction ratio) (switched WriteEmergency)
    (cond (leb G.exit_read_protect n) (switched Balanced) (stays ReadProtect k.enter_read_protect n k.exit_emergency))
