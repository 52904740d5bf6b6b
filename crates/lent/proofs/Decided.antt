-- 01 (a), of each public call here: two outcomes that its contract allows are the same. What a clause says, and that it decides.
use mathlib.Core.Path.{◌≡◌, refl, sym, ◌∙◌}
use contract.Notation.{connectives}
use denote.MutBor.{MutBor}
use seplogic.Ra.Ura.{Ura}
use types.Logic.{Logic}
use Rattle.state.specs.declared.GovernorState.{GovernorState}
use Rattle.state.specs.State.{Observed}
use Rattle.std.specs.Prelude.{⊤, Result}
use Rattle.refusals.specs.declared.Refusal.{Refusal}
use Rattle.refusals.specs.Codes.{code}
use Rattle.refusals.specs.Codes.Same.{same_told}
use Rattle.report.specs.Counters.{trivial_move_of, outcome_of}
use Rattle.lent.specs.contracts.record_trivial_move as record-trivial-move
use Rattle.lent.specs.contracts.record_outcome as record-outcome

-- the governor is left in the state of an answer, and its refusal is returned
abbrev pub Leaves : Observed → MutBor GovernorState → Result ⊤ Refusal → Type 0
Leaves o g r = (g.now ≡ o.state) × (code r ≡ o.refusal)

pub leaves_decides : (o : Observed) (g h : MutBor GovernorState) (one other : Result ⊤ Refusal) → Leaves o g one → Leaves o h other → (one ≡ other) × (g.now ≡ h.now)
leaves_decides o g h one other p q = (same_told one other _ p.1 q.1, p.0 ∙ sym q.0)

module _ {M : Type 1} {𝓤 : Ura M} (𝓛 : Logic 𝓤) where
  open connectives 𝓤 use {⌜◌⌝}

  pub record_trivial_move_says : (mem : _) (run : _) (κs : _) (a : _) (r : _) (e : _) → (record-trivial-move.clauses 𝓛 mem run κs a).ensures tt r e ≡ ⌜ Leaves (trivial_move_of a.0.now a.1.0) e.0 r ⌝
  record_trivial_move_says mem run κs a r e = refl

  pub record_outcome_says : (mem : _) (run : _) (κs : _) (a : _) (r : _) (e : _) → (record-outcome.clauses 𝓛 mem run κs a).ensures tt r e ≡ ⌜ Leaves (outcome_of a.0.now a.1.0 a.1.1.0) e.0 r ⌝
  record_outcome_says mem run κs a r e = refl
