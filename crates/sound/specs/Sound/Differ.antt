-- Two modes differ exactly if their numbers do.
-- Assumes nothing.
use Rattle.std.specs.Prelude.{◌≡◌, refl, not, eqb}
use Rattle.kinds.specs.declared.mode.GovernorMode.{GovernorMode}
use Rattle.kinds.specs.declared.mode.GovernorMode.TheVariants.{Balanced, ReadProtect, WriteEmergency}
use Rattle.kinds.specs.Numbers.{mode_number}
use Rattle.sound.specs.Sound.{differ}

pub differ_is : (a b : GovernorMode) → not (eqb (mode_number a) (mode_number b)) ≡ differ a b
differ_is Balanced Balanced = refl
differ_is Balanced ReadProtect = refl
differ_is Balanced WriteEmergency = refl
differ_is ReadProtect Balanced = refl
differ_is ReadProtect ReadProtect = refl
differ_is ReadProtect WriteEmergency = refl
differ_is WriteEmergency Balanced = refl
differ_is WriteEmergency ReadProtect = refl
differ_is WriteEmergency WriteEmergency = refl
