-- They are the words of the state after the observation, so that the call on words is the call on the state in them.
use Rattle.std.specs.Prelude.{◌≡◌, refl, ℕ, zero, suc, ◌+◌, Bool, true, false, not, List, [], ◌∷◌, length, drop, get_or, Result, Ok, Err}
use Rattle.std.proofs.Common.{ap, ◌∙◌, arith, drop_of_length-le, drop-cons}
use borrow.Author.Tests.{ne_eqb}
use Rattle.refusals.specs.declared.Refusal.{Refusal}
use Rattle.refusals.specs.Codes.{code}
use Rattle.refusals.specs.Refusals.{none, ◌gives◌, first_fault, bad_state, too_large, counter_full}
use Rattle.counts.specs.Counts.{any_large}
use Rattle.sound.specs.Sound.{sound_of}
use Rattle.state.specs.declared.GovernorState.{GovernorState}
use Rattle.kinds.specs.Tuning.{source}
use Rattle.pressure.specs.declared.PressureSample.{PressureSample}
use Rattle.governor.specs.Observe.{observe_fault, counters_full, accepted_of, observed_of}
use Rattle.state_words.specs.StateWords.{is_state, state_from, state_in, state_words, counters_in, gated, refusal_of, words_after}
use Rattle.state_words.specs.StateWords.Kept.{kept}
use Rattle.observe_words.specs.ObserveWords.{signal_words, time_words, overlaid, observed_words}

-- an answer that is no refusal tells none
pub told_none : {A : Type 0} (r : Result A Refusal) → ((e : Refusal) → r ≡ Err e → ⊥) → code r ≡ none
told_none (Ok a) n = refl
told_none (Err e) n = absurd (n e refl)

-- n words from i on
unfoldable words_from : List ℕ → ℕ → ℕ → List ℕ
words_from ws i zero = []
words_from ws i (suc n) = get_or ws i 0 ∷ words_from ws (suc i) n

dropped : (ws : List ℕ) (i n : ℕ) → length ws ≡ i + n → drop i ws ≡ words_from ws i n
unfolding words_from
dropped ws i zero e = drop_of_length-le ws {i = i} (omega (arith, e))
dropped ws i (suc n) e = drop-cons ws i 0 (omega (arith, e)) ∙ ap (λ (l : List ℕ). get_or ws i 0 ∷ l) (dropped ws (suc i) n (omega (arith, e)))

spread : (ws : List ℕ) → length ws ≡ 28 → ws ≡ words_from ws 0 28
spread ws e = dropped ws 0 28 e

-- the words laid over, and the others as they were
overlay : (l : List ℕ) → length l ≡ 28 → (a1 a2 a3 a4 a5 a6 a7 a8 b1 b2 b3 b4 b5 b6 b7 c d : ℕ) → overlaid l (a1 ∷ a2 ∷ a3 ∷ a4 ∷ a5 ∷ a6 ∷ a7 ∷ a8 ∷ []) (b1 ∷ b2 ∷ b3 ∷ b4 ∷ b5 ∷ b6 ∷ b7 ∷ []) c d
    ≡ get_or l 0 0 ∷ a1 ∷ a2 ∷ a3 ∷ a4 ∷ a5 ∷ a6 ∷ a7 ∷ a8 ∷ get_or l 9 0 ∷ get_or l 10 0 ∷ get_or l 11 0 ∷ b1 ∷ b2 ∷ b3 ∷ b4 ∷ b5 ∷ b6 ∷ b7 ∷ get_or l 19 0 ∷ get_or l 20 0 ∷ c ∷ get_or l 22 0 ∷ get_or l 23 0 ∷ get_or l 24 0 ∷ get_or l 25 0 ∷ d ∷ get_or l 27 0 ∷ []
unfolding words_from
overlay l e a1 a2 a3 a4 a5 a6 a7 a8 b1 b2 b3 b4 b5 b6 b7 c d = ap (λ (x : List ℕ). overlaid x (a1 ∷ a2 ∷ a3 ∷ a4 ∷ a5 ∷ a6 ∷ a7 ∷ a8 ∷ []) (b1 ∷ b2 ∷ b3 ∷ b4 ∷ b5 ∷ b6 ∷ b7 ∷ []) c d) (spread l e)

pub observed-words : (ws : List ℕ) (clock : ℕ) (p : PressureSample) → is_state ws ≡ true → observed_words ws clock p ≡ state_words (accepted_of source (state_from ws) (state_from ws).window clock p)
unfolding observed_words state_words accepted_of state_from counters_in signal_words time_words
observed-words ws clock p e = let k = kept ws e in overlay ws k.long _ _ _ _ _ _ _ _ _ _ _ _ _ _ _ _ _ ∙ rw (k.tagged, k.flag, k.streak, k.level)

-- ---- the call

pub state_in_lem : (ws : List ℕ) → is_state ws ≡ true → state_in ws ≡ state_from ws
unfolding state_in
state_in_lem ws e = rw e

module _ (ws : List ℕ) (clock : ℕ) (p : PressureSample) (e : is_state ws ≡ true) where
  pub refused : (n : ℕ) → n ≡ observe_fault source (state_from ws) clock p → ¬ (n ≡ none)
      → (n ≡ refusal_of ws (observed_of source (state_in ws) clock p)) × (ws ≡ words_after ws (observed_of source (state_in ws) clock p))
  unfolding words_after gated observed_of
  refused n f h = rw (state_in_lem ws e, e, ← f, ne_eqb n none h) (refl, refl)

  pub accepted : none ≡ observe_fault source (state_from ws) clock p
      → (none ≡ refusal_of ws (observed_of source (state_in ws) clock p)) × (observed_words ws clock p ≡ words_after ws (observed_of source (state_in ws) clock p))
  unfolding words_after gated observed_of
  accepted f = rw (state_in_lem ws e, e, ← f) (refl, observed-words ws clock p e)

-- an observation without a fault has room in its counters
pub room : (s : GovernorState) (clock : ℕ) (p : PressureSample) → observe_fault source s clock p ≡ none → counters_full source s clock p ≡ false
unfolding observe_fault
room s clock p = last (not (sound_of source s.mode s.streaks)) (any_large p.l0_count p.l0_write_stall_trigger p.backlog_levels) (counters_full source s clock p)
  where
    last : (a b c : Bool) → first_fault (a gives bad_state ∷ b gives too_large ∷ c gives counter_full ∷ []) ≡ none → c ≡ false
    last true b c e = absurd (omega (arith, e))
    last false true c e = absurd (omega (arith, e))
    last false false true e = absurd (omega (arith, e))
    last false false false e = refl
