-- A decision made of a choice is always one in the log's sense, and says the kind that the winner's words say.
use Rattle.std.specs.Prelude.{◌≡◌, true, List, ℕ, ◌-◌, ◌^◌, ◌≤◌, Option, Some, None}
use Rattle.std.proofs.Common.{arith}
use Rattle.lists.specs.Tests.{by-test}
use Rattle.kinds.specs.declared.vector.PressureVector.{PressureVector}
use Rattle.kinds.specs.declared.kind.CandidateKind.{CandidateKind}
use Rattle.kinds.specs.Numbers.{kind_number, kind_level, kind_length}
use Rattle.candidate_records.specs.Candidates.{candidates_of, candidate_at}
use Rattle.choice.specs.PickAnswer.{PickAnswer}
use Rattle.decisions.specs.Decision.{chosen_good, kind_from, chosen_from}
use Rattle.decisions.specs.Decision.Good.{kind-small}
use Rattle.decisions.specs.Decision.RoundTrip.{kind-again}
use Rattle.trace.specs.Trace.{decision_for, decision_of}

-- three words that say no kind choose nothing, so the level always fits
level-low : (k l n : ℕ) → kind_level (chosen_from k l n) ≤ 2 ^ 32 - 1
unfolding chosen_from
level-low k l n =
    by-test (λ (c : Option CandidateKind). kind_level c ≤ 2 ^ 32 - 1) (chosen_good k l n) _ _ (λ e. rw (kind-again k l n e).1 (kind-small k l n e).1) (λ e. omega arith)

module _ (v : PressureVector) (p : PickAnswer) (cw ew : List ℕ) where
  pub decision-low : kind_level (decision_of v p cw ew).chosen ≤ 2 ^ 32 - 1
  unfolding decision_of decision_for
  decision-low = level-low _ _ _

  pub chosen_none : p.winner ≡ None → (decision_of v p cw ew).chosen ≡ None
  unfolding decision_of decision_for chosen_from chosen_good kind_from
  chosen_none e = rw e

  pub chosen_at : (k : ℕ) → p.winner ≡ Some k → (decision_of v p cw ew).chosen ≡ chosen_from (candidate_at (candidates_of cw) k).kind (candidate_at (candidates_of cw) k).level (candidate_at (candidates_of cw) k).batch_len
  unfolding decision_of decision_for
  chosen_at k e = rw e

-- three words that say a kind are that kind's
pub chosen-said : (k l n : ℕ) → chosen_good k l n ≡ true → (kind_number (chosen_from k l n) ≡ k) × (kind_level (chosen_from k l n) ≡ l) × (kind_length (chosen_from k l n) ≡ n)
unfolding chosen_from
chosen-said k l n e = rw e (kind-again k l n e)
