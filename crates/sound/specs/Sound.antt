-- Which states are sound, and whether two modes differ. Definitions only.
pub mod Differ
use Rattle.std.specs.Prelude.{ℕ, Bool, true, false, ◌&&◌, ltb, eqb}
use Rattle.kinds.specs.declared.mode.GovernorMode.{GovernorMode}
use Rattle.kinds.specs.declared.mode.GovernorMode.TheVariants.{Balanced, ReadProtect, WriteEmergency}
use Rattle.kinds.specs.Tuning.{Tuning}
use Rattle.state.specs.declared.Streaks.{Streaks}

-- the mode's own streak is below its window, and the others are 0
abbrev pub own : ℕ → ℕ → ℕ → ℕ → Bool
own window streak a b = ltb streak window && (eqb a 0 && eqb b 0)

unfoldable pub sound_of : Tuning → GovernorMode → Streaks → Bool
sound_of G Balanced k = own G.enter_read_protect k.enter_read_protect k.exit_read_protect k.exit_emergency
sound_of G ReadProtect k = own G.exit_read_protect k.exit_read_protect k.enter_read_protect k.exit_emergency
sound_of G WriteEmergency k = own G.exit_emergency k.exit_emergency k.enter_read_protect k.exit_read_protect

-- whether two modes differ
abbrev pub differ : GovernorMode → GovernorMode → Bool
differ Balanced Balanced = false
differ ReadProtect ReadProtect = false
differ WriteEmergency WriteEmergency = false
differ Balanced ReadProtect = true
differ Balanced WriteEmergency = true
differ ReadProtect Balanced = true
differ ReadProtect WriteEmergency = true
differ WriteEmergency Balanced = true
differ WriteEmergency ReadProtect = true
