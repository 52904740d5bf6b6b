-- `candidate_words::batches::put_batches` meets its contract. What is left is the batches of more tables than the last.
use Rattle.std.proofs.Common.{◌+◌, ◌-◌}
use Rattle.candidate_words.specs.Writing.{Writing}
use Rattle.lists.specs.Records.{tabulate}
use Rattle.candidate_words.specs.Candidates.{batch_of, batches_of}
use Rattle.records.specs.Tables.{tables_of}
use Rattle.candidate_words.proofs.batches.put_batches.Given as goal

abbrev pub invariant-loop-last : goal.invariant-loop-last
invariant-loop-last l = Writing l.initial.end (batches_of l.keys (tables_of l.tables) l.level l.next l.run) l.initial.candidates l.initial.numbers l.end (tabulate (batch_of l.keys (tables_of l.tables) l.level l.next l.run) (l.most - l.last) (l.last + 1)) l.candidates l.numbers
