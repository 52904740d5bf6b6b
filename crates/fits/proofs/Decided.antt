-- 01 (a), of each public call here: two outcomes that its contract allows are the same.
use mathlib.Core.Path.{◌≡◌, sym, ◌∙◌}
use Rattle.refusals.specs.Codes.Same.{same_answer}
use Rattle.fits.proofs.file_room.Reads as file-room
use Rattle.fits.proofs.fits_length.Reads as fits-length
use Rattle.fits.proofs.write_fits.Reads as write-fits

pub file_room_decides : (κs : _) (a : _) (one other : _) (e f : _) → file-room.Post κs a one e → file-room.Post κs a other f → one ≡ other
file_room_decides κs a one other e f p q = p.1 ∙ sym q.1

pub fits_length_decides : (κs : _) (a : _) (one other : _) (e f : _) → fits-length.Post κs a one e → fits-length.Post κs a other f → one ≡ other
fits_length_decides κs a one other e f p q = same_answer one other _ _ p.0 p.1 q.0 q.1

pub write_fits_decides : (κs : _) (a : _) (one other : _) (e f : _) → write-fits.Post κs a one e → write-fits.Post κs a other f → (one ≡ other) × (e.1.1.0.now ≡ f.1.1.0.now)
write_fits_decides κs a one other e f p q = (same_answer one other _ _ p.0 p.1.0 q.0 q.1.0, p.1.1.0 ∙ sym q.1.1.0)
