-- What is known of words that are a choice, and of a choice that is refused: its number is told, and nothing is written.
use Rattle.std.specs.Prelude.{◌≡◌, ℕ, Bool, true, false, List, length, eqb}
use Rattle.std.proofs.Common.{arith, eqb-true, ne_eqb}
use Rattle.refusals.specs.declared.Refusal.{Refusal}
use Rattle.refusals.specs.Codes.{number_of}
use Rattle.refusals.specs.Codes.Same.{refused}
use Rattle.refusals.specs.Written.{written_out}
use Rattle.answer_words.specs.AnswerWords.{answer_fault}
use Rattle.state_words.specs.StateWords.Sound.{both}
use Rattle.choice_words.specs.ChoiceWords.{case_fault, is_picked}

pub picked-long : (ws : List ℕ) → is_picked ws ≡ true → length ws ≡ 6
unfolding is_picked
picked-long ws e = eqb-true _ _ (both {a = eqb (length ws) 6} e).0

fault : (good : Bool) (e : Refusal) → case_fault good (number_of e) ≡ 0 → ⊥
unfolding case_fault
fault true e p = refused e p
fault false e p = absurd (omega arith)

pub refused_value : (good : Bool) (e : Refusal) (room : ℕ) → case_fault good (number_of e) ≡ answer_fault (case_fault good (number_of e)) 6 room
unfolding answer_fault
refused_value good e room = rw (ne_eqb (case_fault good (number_of e)) 0 (fault good e))

pub refused_words : (good : Bool) (e : Refusal) (words out : List ℕ) → out ≡ written_out (case_fault good (number_of e)) words out
refused_words good e words out = rw (ne_eqb (case_fault good (number_of e)) 0 (fault good e))
