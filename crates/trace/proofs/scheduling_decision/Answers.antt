-- `trace::scheduling_decision` meets its contract.
use Rattle.std.proofs.Common.{◌∙◌}
use Rattle.lists.specs.Records.{tabulate, records_of}
use Rattle.candidate_records.specs.Candidates.{candidates_of, estimates_of}
use Rattle.trace.specs.Trace.{decision_of}
use Rattle.trace.proofs.scheduling_decision.Goals as goal

pub returns-in-None : goal.returns-in-None
unfolding decision_of candidates_of estimates_of records_of tabulate
returns-in-None c = c.decision.ensures ∙ rw (c.estimate_at.ensures, c.candidate_at.ensures, c.candidate_count-considered.ensures, c.in-None.is)

pub returns-in-Some : goal.returns-in-Some
unfolding decision_of
returns-in-Some c = c.decision-in-Some.ensures ∙ rw (c.estimate_at-in-Some.ensures, c.candidate_at-in-Some.ensures, c.candidate_count-considered.ensures, c.in-Some.is)
