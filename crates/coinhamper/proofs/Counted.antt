-- What C is told of an answer that says how many bytes were written: its refusal, and their number where there is none.
use Rattle.std.proofs.Common.{◌≡◌, ◌∙◌, ℕ, cond, eqb, ne_eqb, Result, Ok, Err, IfOk}
use Rattle.std.specs.Result.{result_unwrap_or}
use Rattle.refusals.specs.declared.Refusal.{Refusal}
use Rattle.refusals.specs.Refusals.{none}
use Rattle.refusals.specs.Codes.{code}
use Rattle.refusals.specs.Codes.Same.{refused}

counted : (r : Result ℕ Refusal) (length old : ℕ) → IfOk r (λ n. n ≡ length) → cond (eqb (code r) none) (result_unwrap_or r 0) old ≡ cond (eqb (code r) none) length old
counted (Ok n) length old f = f
counted (Err x) length old f = rw (ne_eqb _ _ (refused x))

pub told : (r : Result ℕ Refusal) (refusal length old new n c t : ℕ) → code r ≡ refusal → IfOk r (λ n. n ≡ length)
    → c ≡ code r → n ≡ result_unwrap_or r 0
    → (t ≡ c) × (new ≡ cond (eqb c none) n old)
    → (t ≡ refusal) × (new ≡ cond (eqb t none) length old)
told r refusal length old new n c t e f g h p = (p.0 ∙ g ∙ e, p.1 ∙ rw (p.0, g, h) (counted r length old f))
