-- The decision that a choice leads to: the vector with its dominant component, the tier, how many candidates there were, and of the winner its kind, the bytes to rewrite and the three reliefs. Definitions only.
use Rattle.std.specs.Prelude.{ℕ, List, length, Option, Some, None}
use Rattle.kinds.specs.declared.vector.PressureVector.{PressureVector}
use Rattle.kinds.specs.declared.tier.SelectionTier.{SelectionTier}
use Rattle.kinds.specs.Vector.{dominant_of}
use Rattle.candidate_records.specs.declared.Candidate.{Candidate}
use Rattle.candidate_records.specs.declared.CandidateEstimate.{CandidateEstimate}
use Rattle.candidate_records.specs.Candidates.{candidates_of, estimates_of, candidate_at, estimate_at, no_candidate, no_estimate}
use Rattle.choice.specs.PickAnswer.{PickAnswer}
use Rattle.decisions.specs.declared.SchedulingDecision.{SchedulingDecision}
use Rattle.decisions.specs.Decision.{chosen_from}

-- the log gives the sequence
unfoldable pub decision_for : PressureVector → SelectionTier → ℕ → Candidate → CandidateEstimate → SchedulingDecision
decision_for v tier n c e =
    record {
      sequence = 0;
      pressure = v;
      dominant = dominant_of v;
      tier = tier;
      candidates_considered = n;
      chosen = chosen_from c.kind c.level c.batch_len;
      predicted_rewrite_bytes = e.estimated_rewrite_bytes;
      l0_relief = e.l0_relief;
      debt_relief = e.debt_relief;
      read_relief = e.read_relief;
    }

-- the winner's records; with no winner records of zeros, of which the kind is none
abbrev pub chosen_records : Option ℕ → List Candidate → List CandidateEstimate → Candidate × CandidateEstimate
chosen_records None cs es = (no_candidate, no_estimate)
chosen_records (Some k) cs es = (candidate_at cs k, estimate_at es k)

unfoldable pub decision_of : PressureVector → PickAnswer → List ℕ → List ℕ → SchedulingDecision
decision_of v p cw ew =
    let r = chosen_records p.winner (candidates_of cw) (estimates_of ew) in
    decision_for v p.tier (length (candidates_of cw)) r.0 r.1
