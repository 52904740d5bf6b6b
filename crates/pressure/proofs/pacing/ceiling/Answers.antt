-- `pressure::pacing::ceiling` meets its contract.
use Rattle.pressure.proofs.pacing.ceiling.Goals as goal

pub returns-in-Balanced : goal.returns-in-Balanced
returns-in-Balanced c = simp c.in-Balanced.is

pub returns-in-ReadProtect : goal.returns-in-ReadProtect
returns-in-ReadProtect c = simp c.in-ReadProtect.is

pub returns-in-WriteEmergency : goal.returns-in-WriteEmergency
returns-in-WriteEmergency c = simp c.in-WriteEmergency.is
