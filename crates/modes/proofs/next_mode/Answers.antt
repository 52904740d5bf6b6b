-- `modes::next_mode` meets its contract.
use Rattle.std.proofs.Common.{lit<}
use Rattle.kinds.specs.declared.mode.GovernorMode.TheVariants.{Balanced, ReadProtect, WriteEmergency}
use Rattle.modes.specs.Mode.{switched, stays, next_mode_of}
use Rattle.modes.specs.Mode.Windows.{as_whole}
use Rattle.modes.proofs.next_mode.Goals as goal

pub returns-then-is_hot : goal.returns-then-is_hot
unfolding next_mode_of
returns-then-is_hot c = simp (c.in-Balanced.is, c.switch_to.ensures, ← c.emergency_now-is_hot.ensures, c.if-is_hot.true)

pub returns-then-is_hot-2 : goal.returns-then-is_hot-2
unfolding next_mode_of
returns-then-is_hot-2 c = simp (c.in-ReadProtect.is, c.switch_to-then-is_hot-2.ensures, ← c.emergency_now-is_hot.ensures, c.if-is_hot-2.true)

pub returns-in-WriteEmergency : goal.returns-in-WriteEmergency
unfolding next_mode_of
returns-in-WriteEmergency c = let k = c.args.k in
    simp (c.in-WriteEmergency.is, c.ended.ensures, c.keep_mode-kept.ensures, ← c.has_recovered.ensures) (as_whole 3 c.streak-n.ensures (lit< tt) (switched Balanced) (stays WriteEmergency k.enter_read_protect k.exit_read_protect))

pub returns-else-is_hot : goal.returns-else-is_hot
unfolding next_mode_of
returns-else-is_hot c = let k = c.args.k in
    simp (c.in-Balanced.is, c.ended-in-Balanced.ensures, c.keep_mode-kept-in-Balanced.ensures, ← c.emergency_now-is_hot.ensures, c.if-is_hot.false, ← c.is_high.ensures) (as_whole 3 c.streak-n-in-Balanced.ensures (lit< tt) (switched ReadProtect) (λ n. stays Balanced n k.exit_read_protect k.exit_emergency))

pub returns-else-is_hot-2 : goal.returns-else-is_hot-2
unfolding next_mode_of
returns-else-is_hot-2 c = let k = c.args.k in
    simp (c.in-ReadProtect.is, c.ended-in-ReadProtect.ensures, c.keep_mode-kept-in-ReadProtect.ensures, ← c.emergency_now-is_hot.ensures, c.if-is_hot-2.false, ← c.is_calm.ensures) (as_whole 4 c.streak-n-in-ReadProtect.ensures (lit< tt) (switched Balanced) (λ n. stays ReadProtect k.enter_read_protect n k.exit_emergency))
