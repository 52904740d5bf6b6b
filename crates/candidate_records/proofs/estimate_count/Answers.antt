-- `candidate_records::estimate_count` meets its contract.
use Rattle.std.proofs.Common.{sym}
use Rattle.lists.specs.Records.{records_count}
use Rattle.candidate_records.specs.Candidates.{estimates_of}
use Rattle.candidate_records.proofs.estimate_count.Goals as goal

pub returns : goal.returns
unfolding estimates_of
returns c = sym (records_count 9 _ _)
