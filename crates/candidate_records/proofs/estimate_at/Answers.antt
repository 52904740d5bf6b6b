-- `candidate_records::estimate_at` meets its contract.
use Rattle.records.specs.Words.{record_at}
use Rattle.candidate_records.specs.Candidates.{estimates_of, estimate_by}
use Rattle.candidate_records.proofs.estimate_at.Goals as goal

pub returns : goal.returns
unfolding estimates_of
returns c = rw (c.of_bits-3.ensures, c.word-9.ensures, c.of_bits-2.ensures, c.word-8.ensures, c.of_bits.ensures, c.word-7.ensures, c.word-6.ensures, c.word-5.ensures, c.word-4.ensures, c.word-3.ensures, c.word-2.ensures, c.word.ensures) (record_at _ 9 _ estimate_by)
