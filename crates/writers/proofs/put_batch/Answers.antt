-- `writers::put_batch` meets its contract.
use Rattle.writers.specs.Writers.{merged_of}
use Rattle.writers.proofs.put_batch.Goals as goal

pub returns : goal.returns
unfolding merged_of
returns c = rw (c.batch_low-lo.ensures, c.batch_high-hi.ensures, c.held.ensures) at c.put_merged.ensures
