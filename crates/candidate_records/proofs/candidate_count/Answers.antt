-- `candidate_records::candidate_count` meets its contract.
use Rattle.std.proofs.Common.{sym}
use Rattle.lists.specs.Records.{records_count}
use Rattle.candidate_records.specs.Candidates.{candidates_of}
use Rattle.candidate_records.proofs.candidate_count.Goals as goal

pub returns : goal.returns
unfolding candidates_of
returns c = sym (records_count 6 _ _)
