-- 01 (a), of each public call here: two outcomes that its contract allows are the same.
use mathlib.Core.Path.{◌≡◌, sym, ◌∙◌}
use Rattle.refusals.specs.Codes.Same.{same_answer}
use Rattle.replay_lines.proofs.run.text_room.Reads as text-room
use Rattle.replay_lines.proofs.run.output_room.Reads as output-room
use Rattle.replay_lines.proofs.run.replay.Reads as replay

pub text_room_decides : (κs : _) (a : _) (one other : _) (e f : _) → text-room.Post κs a one e → text-room.Post κs a other f → one ≡ other
text_room_decides κs a one other e f p q = p.1 ∙ sym q.1

pub output_room_decides : (κs : _) (a : _) (one other : _) (e f : _) → output-room.Post κs a one e → output-room.Post κs a other f → one ≡ other
output_room_decides κs a one other e f p q = p.1 ∙ sym q.1

pub replay_decides : (κs : _) (a : _) (one other : _) (e f : _) → replay.Post κs a one e → replay.Post κs a other f → (one ≡ other) × (e.1.0.now ≡ f.1.0.now)
replay_decides κs a one other e f p q = (same_answer one other _ _ p.0 p.1.0 q.0 q.1.0, p.1.1.0 ∙ sym q.1.1.0)
