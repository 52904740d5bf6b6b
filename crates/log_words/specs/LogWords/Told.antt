-- A head's three words written, and what words say that are a decision or none.
use Rattle.std.specs.Prelude.{◌≡◌, refl, ℕ, ◌-◌, ◌^◌, Bool, true, false, cond, not, ◌||◌, List, [], ◌∷◌, length, set, get_or, eqb, Option, Some, None}
use Rattle.std.proofs.Common.{ap, arith, eqb-true}
use Rattle.refusals.specs.Refusals.{none}
use Rattle.decisions.specs.declared.SchedulingDecision.{SchedulingDecision}
use Rattle.decisions.specs.Decision.{is_decision, decision_in, read_of}
use Rattle.decision_log.specs.Log.{log_bad, log_words}
use Rattle.log_words.specs.LogWords.{is_head, head_of, record_refusal}

pub three_set : (l : List ℕ) (a b c : ℕ) → length l ≡ 3 → set (set (set l 0 a) 1 b) 2 c ≡ a ∷ b ∷ c ∷ []
three_set [] a b c e = absurd (omega (arith, e))
three_set (x ∷ []) a b c e = absurd (omega (arith, e))
three_set (x ∷ y ∷ []) a b c e = absurd (omega (arith, e))
three_set (x ∷ y ∷ z ∷ []) a b c e = refl
three_set (x ∷ y ∷ z ∷ w ∷ l) a b c e = absurd (omega (arith, e))

past : (b : Bool) → (b || true) ≡ false → ⊥
past true e = let z : ◌≡◌ {A = ℕ} 1 0 = ap (λ (x : Bool). cond x 1 0) e in omega arith
past false e = let z : ◌≡◌ {A = ℕ} 1 0 = ap (λ (x : Bool). cond x 1 0) e in omega arith

-- a log that is one has three words
pub head_long : (head : List ℕ) (n : ℕ) → log_bad (head_of head) n ≡ false → length head ≡ 3
unfolding head_of log_bad
head_long head n e = by (is_head head) refl e
  where
    by : (b : Bool) → is_head head ≡ b
        → log_bad (cond b (record { first = get_or head 0 0; count = get_or head 1 0; sequence = get_or head 2 0 }) (record { first = 2 ^ 64 - 1; count = 0; sequence = 0 })) n ≡ false
        → length head ≡ 3
    by true p e = eqb-true _ _ p
    by false p e = absurd (past (not (eqb n log_words)) e)

abbrev IsRead : List ℕ → Bool → Option SchedulingDecision → Type 0
IsRead ws b (Some d) = (b ≡ true) × (decision_in ws ≡ d)
IsRead ws b None = b ≡ false

pub is_read : (ws : List ℕ) (r : Option SchedulingDecision) → read_of ws ≡ r → IsRead ws (is_decision ws) r
unfolding read_of
is_read ws r e = rw (← e) (by (is_decision ws))
  where
    by : (b : Bool) → IsRead ws b (cond b (Some (decision_in ws)) None)
    by true = (refl, refl)
    by false = refl

pub clear : (head : List ℕ) (n : ℕ) (d : List ℕ) → log_bad (head_of head) n ≡ false → is_decision d ≡ true → record_refusal head n d ≡ none
unfolding record_refusal
clear head n d b e = simp (b, e)
