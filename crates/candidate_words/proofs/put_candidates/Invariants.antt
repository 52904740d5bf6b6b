-- `candidate_words::put_candidates` meets its contract. What is left is the candidates of the entries from i on.
use Rattle.std.proofs.Common.{drop}
use Rattle.candidate_words.specs.Writing.{Writing}
use Rattle.candidate_words.specs.Candidates.{over_offers}
use Rattle.records.specs.Tables.{tables_of, entries_of}
use Rattle.candidate_words.proofs.put_candidates.Given as goal

abbrev pub invariant-loop-i : goal.invariant-loop-i
invariant-loop-i l = Writing l.initial.end (over_offers l.keys (tables_of l.tables) (entries_of l.over)) l.initial.candidates l.initial.numbers l.end (over_offers l.keys (tables_of l.tables) (drop l.i (entries_of l.over))) l.candidates l.numbers
