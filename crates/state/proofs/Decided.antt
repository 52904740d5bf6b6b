-- 01 (a), of each public call here: two outcomes that its contract allows are the same.
use mathlib.Core.Path.{◌≡◌, sym, ◌∙◌}
use Rattle.state.proofs.fresh.Reads as fresh
use Rattle.state.proofs.GovernorState.mode.Reads as mode
use Rattle.state.proofs.GovernorState.pressure.Reads as pressure
use Rattle.state.proofs.GovernorState.pressure_vector.Reads as pressure-vector
use Rattle.state.proofs.GovernorState.focus.Reads as focus
use Rattle.state.proofs.GovernorState.set_focus.Reads as set-focus

pub fresh_decides : (κs : _) (a : _) (one other : _) (e f : _) → fresh.Post κs a one e → fresh.Post κs a other f → one ≡ other
fresh_decides κs a one other e f p q = p ∙ sym q

pub mode_decides : (κs : _) (a : _) (one other : _) (e f : _) → mode.Post κs a one e → mode.Post κs a other f → one ≡ other
mode_decides κs a one other e f p q = p ∙ sym q

pub pressure_decides : (κs : _) (a : _) (one other : _) (e f : _) → pressure.Post κs a one e → pressure.Post κs a other f → one ≡ other
pressure_decides κs a one other e f p q = p ∙ sym q

pub pressure_vector_decides : (κs : _) (a : _) (one other : _) (e f : _) → pressure-vector.Post κs a one e → pressure-vector.Post κs a other f → one ≡ other
pressure_vector_decides κs a one other e f p q = p ∙ sym q

pub focus_decides : (κs : _) (a : _) (one other : _) (e f : _) → focus.Post κs a one e → focus.Post κs a other f → one ≡ other
focus_decides κs a one other e f p q = p ∙ sym q

pub set_focus_decides : (κs : _) (a : _) (one other : _) (e f : _) → set-focus.Post κs a one e → set-focus.Post κs a other f → one ≡ other
set_focus_decides κs a one other e f p q = p ∙ sym q
