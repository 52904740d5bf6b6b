-- `candidate_records::candidate_at` meets its contract.
use Rattle.records.specs.Words.{record_at}
use Rattle.candidate_records.specs.Candidates.{candidates_of, candidate_by}
use Rattle.candidate_records.proofs.candidate_at.Goals as goal

pub returns : goal.returns
unfolding candidates_of
returns c = rw (c.word-6.ensures, c.word-5.ensures, c.word-4.ensures, c.word-3.ensures, c.word-2.ensures, c.word.ensures) (record_at _ 6 _ candidate_by)
