-- A call with a kind's number is the call with the kind that it stands for; any other number is refused.
-- Assumes nothing.
use Rattle.std.specs.Prelude.{◌≡◌, refl, ℕ, Option, Some, None, Bool, true, false, cond, eqb}
use Rattle.refusals.specs.Refusals.{none}
use Rattle.kinds.specs.declared.kind.CandidateKind.{CandidateKind}
use Rattle.kinds.specs.declared.kind.CandidateKind.TheVariants.{L0, LevelBatch, TrivialMove}
use Rattle.state.specs.declared.GovernorState.{GovernorState}
use Rattle.state.specs.State.{Observed, answered}
use Rattle.report.specs.Counters.{chosen_of}
use Rattle.state_words.specs.StateWords.{no_such_case}
use Rattle.coinhamper.specs.Governed.{kind_by, chosen_by}

abbrev pub chosen_or : GovernorState → Option CandidateKind → Observed
chosen_or s (Some k) = record { refusal = none; state = chosen_of s k }
chosen_or s None = record { refusal = no_such_case; state = s }

pub by_kind : (s : GovernorState) (kind level n : ℕ) → chosen_or s (kind_by kind level n) ≡ chosen_by s kind level n
unfolding kind_by chosen_by
by_kind s kind level n = by (eqb kind 1) (eqb kind 2) (eqb kind 3)
  where
    by : (a b c : Bool) → chosen_or s (cond a (Some L0) (cond b (Some (LevelBatch level n)) (cond c (Some (TrivialMove level)) None)))
        ≡ cond a (answered none s (chosen_of s L0)) (cond b (answered none s (chosen_of s (LevelBatch level n))) (cond c (answered none s (chosen_of s (TrivialMove level))) (answered no_such_case s s)))
    by true b c = refl
    by false true c = refl
    by false false true = refl
    by false false false = refl
