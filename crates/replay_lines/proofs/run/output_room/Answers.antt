-- `replay_lines::run::output_room` meets its contract: written out, since a search would count the bytes.
use Rattle.std.proofs.Common.{ℕ, refl, sym}
use lib.ListN.{length-replicate}
use Rattle.replay_lines.proofs.run.output_room.Goals as goal

pub returns : goal.returns
returns c = (sym (length-replicate {0} {A = ℕ} 1179648 0), refl)
