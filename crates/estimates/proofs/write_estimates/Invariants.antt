-- `estimates::write_estimates` meets its contract.
use Rattle.std.proofs.Common.{drop, ◌*◌, ◌≡◌}
use Rattle.estimate_faults.specs.Faults.{estimate_input}
use Rattle.estimates.specs.Estimate.Call.{estimate_words_of, estimate_words}
use Rattle.candidate_records.specs.Candidates.{candidates_of}
use Rattle.lists.specs.Writes.{Filling}
use Rattle.records.specs.Tables.{tables_of, entries_of}
use Rattle.reliefs.specs.Reliefs.{level_bytes_of}
use Rattle.estimates.proofs.write_estimates.Given as goal

abbrev pub invariant-loop-i : goal.invariant-loop-i
invariant-loop-i l = (l.sum.bytes ≡ level_bytes_of l.sum.level (tables_of l.numbered.tables.now)) × Filling l.initial.estimates 0 (estimate_words (estimate_input l.numbered.tables.now l.next l.over l.candidates l.numbers)) l.estimates (l.i * 9) (estimate_words_of (tables_of l.numbered.tables.now) l.next (entries_of l.over) l.numbers (drop l.i (candidates_of l.candidates)))
