-- Two refusals with one number are one, so an answer is known by its number and its value.
use Rattle.std.specs.Prelude.{◌≡◌, refl, ℕ, ◌<◌, ⊤, Result, Ok, Err, IfOk, cond, eqb}
use Rattle.std.proofs.Common.{sym, ◌∙◌, arith}
use Rattle.refusals.specs.declared.Refusal.{Refusal}
use Rattle.refusals.specs.declared.Refusal.TheVariants.{BadState, TooLarge, CounterFull, TooMany, BadRecord, BadLevel, BadVector, BadEstimate, NoRoom, BadLog, DuplicateNumber}
use Rattle.refusals.specs.Codes.{number_of, code}

-- the refusal with a number; any other number says the last
abbrev refusal_of : ℕ → Refusal
refusal_of n =
    cond (eqb n 1) BadState
    (cond (eqb n 2) TooLarge
    (cond (eqb n 3) CounterFull
    (cond (eqb n 4) TooMany
    (cond (eqb n 5) BadRecord
    (cond (eqb n 6) BadLevel
    (cond (eqb n 7) BadVector
    (cond (eqb n 8) BadEstimate
    (cond (eqb n 9) NoRoom
    (cond (eqb n 10) BadLog DuplicateNumber)))))))))

back : (e : Refusal) → refusal_of (number_of e) ≡ e
back BadState = refl
back TooLarge = refl
back CounterFull = refl
back TooMany = refl
back BadRecord = refl
back BadLevel = refl
back BadVector = refl
back BadEstimate = refl
back NoRoom = refl
back BadLog = refl
back DuplicateNumber = refl

pub same_refusal : (d e : Refusal) → number_of d ≡ number_of e → d ≡ e
same_refusal d e p = sym (back d) ∙ rw p (back e)

positive : (e : Refusal) → 0 < number_of e
positive BadState = omega arith
positive TooLarge = omega arith
positive CounterFull = omega arith
positive TooMany = omega arith
positive BadRecord = omega arith
positive BadLevel = omega arith
positive BadVector = omega arith
positive BadEstimate = omega arith
positive NoRoom = omega arith
positive BadLog = omega arith
positive DuplicateNumber = omega arith

-- no refusal has the number of none
pub refused : (e : Refusal) → number_of e ≡ 0 → ⊥
refused e p = absurd (omega (arith, positive e))

-- a contract that says an answer's number and its value decides the answer
pub same_answer : {A : Type 0} (r s : Result A Refusal) (n : ℕ) (x : A) → code r ≡ n → IfOk r (λ a. a ≡ x) → code s ≡ n → IfOk s (λ a. a ≡ x) → r ≡ s
same_answer (Ok a) (Ok b) n x p v q w = rw (v, w) refl
same_answer (Ok a) (Err e) n x p v q w = absurd (refused e (q ∙ sym p))
same_answer (Err d) (Ok b) n x p v q w = absurd (refused d (p ∙ sym q))
same_answer (Err d) (Err e) n x p v q w = rw (same_refusal d e (p ∙ sym q)) refl

-- and so does its number alone, where there is no value
pub same_told : (r s : Result ⊤ Refusal) (n : ℕ) → code r ≡ n → code s ≡ n → r ≡ s
same_told r s n p q = same_answer r s n tt p (only r) q (only s)
  where
    only : (r : Result ⊤ Refusal) → IfOk r (λ a. a ≡ tt)
    only (Ok a) = refl
    only (Err e) = tt
