-- 01 (a), of each public call here: two outcomes that its contract allows are the same.
use mathlib.Core.Path.{◌≡◌, sym, ◌∙◌}
use Rattle.refusals.specs.Codes.Same.{same_answer}
use Rattle.log_text.proofs.text_room.Reads as text-room
use Rattle.log_text.proofs.word_room.Reads as word_room
use Rattle.log_text.proofs.read_log.Reads as read_Log
use Rattle.log_text.proofs.refused_lines.Reads as refused-lines

pub text_room_decides : (κs : _) (a : _) (one other : _) (e f : _) → text-room.Post κs a one e → text-room.Post κs a other f → one ≡ other
text_room_decides κs a one other e f p q = p.1 ∙ sym q.1

pub word_room_decides : (κs : _) (a : _) (one other : _) (e f : _) → word_room.Post κs a one e → word_room.Post κs a other f → one ≡ other
word_room_decides κs a one other e f p q = p.1 ∙ sym q.1

pub read_log_decides : (κs : _) (a : _) (one other : _) (e f : _) → read_Log.Post κs a one e → read_Log.Post κs a other f → (one ≡ other) × (e.1.0.now ≡ f.1.0.now)
read_log_decides κs a one other e f p q = (same_answer one other _ _ p.0 p.1.0 q.0 q.1.0, p.1.1 ∙ sym q.1.1)

pub refused_lines_decides : (κs : _) (a : _) (one other : _) (e f : _) → refused-lines.Post κs a one e → refused-lines.Post κs a other f → (one ≡ other) × (e.1.0.now ≡ f.1.0.now)
refused_lines_decides κs a one other e f p q = (same_answer one other _ _ p.0 p.1.0 q.0 q.1.0, p.1.1.0 ∙ sym q.1.1.0)
