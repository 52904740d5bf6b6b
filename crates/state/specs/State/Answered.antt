-- What an answer's number says of its state: a refusal leaves the old one.
-- Assumes nothing.
use Rattle.std.specs.Prelude.{◌≡◌, ℕ, Result, Ok, Err, IfOk}
use Rattle.std.specs.Result.{result_unwrap_or}
use Rattle.std.proofs.Common.{◌∙◌, ne_eqb}
use Rattle.refusals.specs.declared.Refusal.{Refusal}
use Rattle.refusals.specs.Refusals.{none}
use Rattle.refusals.specs.Codes.{number_of, code}
use Rattle.refusals.specs.Codes.Same.{refused}
use Rattle.state.specs.declared.GovernorState.{GovernorState}
use Rattle.state.specs.State.{Observed, answered}

pub left : (fault : ℕ) (old new : GovernorState) (e : Refusal) → number_of e ≡ fault → old ≡ (answered fault old new).state
left fault old new e p = rw (ne_eqb fault none (λ h. refused e (p ∙ h)))

-- the new state, or the old one beside a refusal
pub whole : (fault : ℕ) (old new : GovernorState) (r : Result GovernorState Refusal) → code r ≡ fault → IfOk r (λ s. s ≡ (answered fault old new).state)
    → record { refusal = code r; state = result_unwrap_or r old } ≡ answered fault old new
whole fault old new (Ok s) p q = rw (q, ← p)
whole fault old new (Err e) p q = rw (← p) (rw (ne_eqb (number_of e) none (refused e)))
