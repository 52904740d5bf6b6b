-- `replay_lines::run::text_room` meets its contract: written out, since a search would count the bytes.
use Rattle.std.proofs.Common.{ℕ, refl, sym}
use lib.ListN.{length-replicate}
use Rattle.replay_lines.proofs.run.text_room.Goals as goal

pub returns : goal.returns
returns c = (sym (length-replicate {0} {A = ℕ} 65537 0), refl)
