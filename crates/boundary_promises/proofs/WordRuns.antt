-- From a state whose fields fit their types on, a run of calls on words is the run on states: the same numbers, and the words of the state that it reaches. So demand 3 holds through the boundary, and the times add up.
use Prim.Native.Nat.{ℕ, ◌+◌, ◌^◌, ◌<◌}
use native.Mathlib.Omega.{arith}
use mathlib.Core.Path.{◌≡◌, refl, sym, ap, ◌∙◌}
use mathlib.Core.Logic.{◌↔◌}
use mathlib.Core.Bool.{Bool, true, false, cond}
use mathlib.Core.List.{List, [], ◌∷◌}
use lib.ListN.{length}
use lib.Dec.{T, eqb}
use borrow.Author.Tests.{eq-eqb, eqb-false}
use Rattle.refusals.specs.Refusals.{none, counter_full}
use Rattle.kinds.specs.declared.mode.GovernorMode.{GovernorMode}
use Rattle.kinds.specs.declared.mode.GovernorMode.TheVariants.{Balanced, ReadProtect, WriteEmergency}
use Rattle.kinds.specs.declared.kind.CandidateKind.TheVariants.{L0, LevelBatch, TrivialMove}
use Rattle.kinds.specs.Numbers.{mode_number}
use Rattle.kinds.specs.Tuning.{source}
use Rattle.state.specs.declared.GovernorState.{GovernorState}
use Rattle.state.specs.State.{Observed, fresh_of}
use Rattle.governor_promises.specs.Reading.{sampled, counted, ReadsAs}
use Rattle.governor_promises.specs.Calls.{Action, observe, move, outcome, choose, focus, snapshot, EachCall, acted, after}
use Rattle.governor_promises.specs.Times.{highest, ReadingFits, full_beside_time}
use Rattle.governor_promises.proofs.Answers.{refused_changes_nothing}
use Rattle.governor_promises.proofs.Thresholds.{source-apart}
use Rattle.governor_promises.proofs.CallByCall.{list, reads_calls}
use Rattle.governor_promises.proofs.Times.{times_add_up, time_never_full}
use Rattle.state_words.specs.StateWords.{is_state, state_in, state_words, gated, refusal_of, words_after}
use Rattle.state_words.specs.StateWords.Back.{Fits, focus-good, focus-back, words-good, back}
use Rattle.answer_words.specs.AnswerWords.{reading_words, mode_or}
use Rattle.coinhamper.specs.Governed.{fresh_after, chosen_by, focused_by}
use Rattle.boundary_promises.specs.WordRuns.{said_of, refusal_on, words_on, words_run, refusals_run, refusals, Handed, total_read, mode_read}
use Rattle.boundary_promises.proofs.Fitting.{fresh-fits, acted-fits}

-- ---- one call

-- numbers handed in are the case that they stand for
said : (s : GovernorState) (a : Action) → Handed a → said_of s a ≡ acted source s a
unfolding chosen_by focused_by
said s (observe now (sampled x)) h = refl
said s (observe now (counted e a)) h = refl
said s (move bytes) h = refl
said s (outcome predicted actual) h = refl
said s (choose L0) h = refl
said s (choose (LevelBatch level n)) h = refl
said s (choose (TrivialMove level)) h = refl
said s (focus f) h = rw (focus-good f.current_focus h.0, focus-back f.current_focus f.streak)
said s (snapshot now) h = refl

-- where the words are a state, the number is the call's own, and the words are those of the state that it leaves
answers : (s : GovernorState) (o : Observed) → Fits s → (¬ (o.refusal ≡ none) → o.state ≡ s) → (refusal_of (state_words s) o ≡ o.refusal) × (words_after (state_words s) o ≡ state_words o.state)
unfolding gated words_after
answers s o h k = rw (words-good s h.smalls) (refl, by (eqb o.refusal none) refl)
  where
    by : (b : Bool) → eqb o.refusal none ≡ b → cond b (state_words o.state) (state_words s) ≡ state_words o.state
    by true e = refl
    by false e = ap state_words (sym (k (eqb-false _ _ e)))

module _ (s : GovernorState) (a : Action) (h : Fits s) (k : Handed a) where
  same : said_of (state_in (state_words s)) a ≡ acted source s a
  same = ap (λ (t : GovernorState). said_of t a) (back s h) ∙ said s a k

  both : (refusal_of (state_words s) (acted source s a) ≡ (acted source s a).refusal) × (words_after (state_words s) (acted source s a) ≡ state_words (acted source s a).state)
  both = answers s (acted source s a) h (refused_changes_nothing source s a)

  pub refusal-same : refusal_on (state_words s) a ≡ (acted source s a).refusal
  refusal-same = ap (refusal_of (state_words s)) same ∙ both.0

pub words_same : (s : GovernorState) (a : Action) → Fits s → Handed a → words_on (state_words s) a ≡ state_words (acted source s a).state
words_same s (observe now o) h k = ap (words_after (state_words s)) (same s (observe now o) h k) ∙ (both s (observe now o) h k).1
words_same s (move bytes) h k = ap (words_after (state_words s)) (same s (move bytes) h k) ∙ (both s (move bytes) h k).1
words_same s (outcome predicted actual) h k = ap (words_after (state_words s)) (same s (outcome predicted actual) h k) ∙ (both s (outcome predicted actual) h k).1
words_same s (choose kind) h k = ap (words_after (state_words s)) (same s (choose kind) h k) ∙ (both s (choose kind) h k).1
words_same s (focus f) h k = ap (words_after (state_words s)) (same s (focus f) h k) ∙ (both s (focus f) h k).1
words_same s (snapshot now) h k = refl

-- ---- a run

pub run-words : (s : GovernorState) (l : List Action) → Fits s → EachCall Handed l → words_run (state_words s) l ≡ state_words (after source s l)
unfolding words_run after
run-words s [] h k = refl
run-words s (a ∷ l) h k = rw (words_same s a h k.0) (run-words (acted source s a).state l (acted-fits s a h k.0) k.1)

pub run-refusals : (s : GovernorState) (l : List Action) → Fits s → EachCall Handed l → refusals_run (state_words s) l ≡ refusals s l
unfolding refusals_run refusals
run-refusals s [] h k = refl
run-refusals s (a ∷ l) h k = rw (refusal-same s a h k.0, words_same s a h k.0, run-refusals (acted source s a).state l (acted-fits s a h k.0) k.1)

pub run_fits : (s : GovernorState) (l : List Action) → Fits s → EachCall Handed l → Fits (after source s l)
unfolding after
run_fits s [] h k = h
run_fits s (a ∷ l) h k = run_fits (acted source s a).state l (acted-fits s a h k.0) k.1

-- ---- from a fresh governor on

module _ (ws : List ℕ) (long : length ws ≡ 28) (clock : ℕ) (l : List Action) (handed : EachCall Handed l) where
  abbrev ended : GovernorState
  ended = after source (fresh_of clock) l

  ended-fits : Fits ended
  ended-fits = run_fits (fresh_of clock) l (fresh-fits clock) handed

  begun : fresh_after ws clock ≡ state_words (fresh_of clock)
  unfolding fresh_after
  begun = rw (eq-eqb (length ws) 28 long)

  pub fresh-run : words_run (fresh_after ws clock) l ≡ state_words ended
  fresh-run = rw begun (run-words (fresh_of clock) l (fresh-fits clock) handed)

  pub fresh-refusals : refusals_run (fresh_after ws clock) l ≡ refusals (fresh_of clock) l
  fresh-refusals = rw begun (run-refusals (fresh_of clock) l (fresh-fits clock) handed)

  -- no call of it is refused by 100
  pub stays_a_state : is_state (words_run (fresh_after ws clock) l) ≡ true
  stays_a_state = rw fresh-run (words-good ended ended-fits.smalls)

  mode-read : mode_read (words_run (fresh_after ws clock) l) ≡ mode_number ended.mode
  unfolding reading_words
  mode-read = rw (fresh-run, back ended ended-fits)

  -- `coinhamper_mode` answers the mode that `coinhamper_read` does
  pub mode-told : (old : ℕ) → mode_or (words_run (fresh_after ws clock) l) old ≡ mode_read (words_run (fresh_after ws clock) l)
  unfolding mode_or reading_words
  mode-told old = rw stays_a_state

  -- 02 (ii): the times add up, and a call that answers 3 has another sum that is full
  module _ (clock-fits : clock < 2 ^ 64) (readings-fit : EachCall ReadingFits l) where
    pub words_add_up : total_read (words_run (fresh_after ws clock) l) + clock ≡ highest source clock l
    words_add_up = rw (fresh-run, back ended ended-fits) (times_add_up source clock clock-fits l readings-fit)

    pub words_never_full : (a : Action) → Handed a → ReadingFits a → refusal_on (words_run (fresh_after ws clock) l) a ≡ counter_full
        → T (full_beside_time source ended a)
    words_never_full a h r = rw (fresh-run, refusal-same ended a ended-fits h) (time_never_full source clock clock-fits l readings-fit a r)

  -- demand 3: the mode that is read is the one that the list of accepted observations reads as
  pub reads-words : (m : GovernorMode) → (mode_read (words_run (fresh_after ws clock) l) ≡ mode_number m) ↔ ReadsAs source (list clock l) m
  reads-words m = rw mode-read (
    λ e. (reads_calls source source-apart clock l m).0 (one_number _ m e),
    λ r. ap mode_number ((reads_calls source source-apart clock l m).1 r),
  )
    where
      one_number : (a b : GovernorMode) → mode_number a ≡ mode_number b → a ≡ b
      one_number Balanced Balanced e = refl
      one_number ReadProtect ReadProtect e = refl
      one_number WriteEmergency WriteEmergency e = refl
      one_number Balanced ReadProtect e = absurd (omega (arith, e))
      one_number Balanced WriteEmergency e = absurd (omega (arith, e))
      one_number ReadProtect Balanced e = absurd (omega (arith, e))
      one_number ReadProtect WriteEmergency e = absurd (omega (arith, e))
      one_number WriteEmergency Balanced e = absurd (omega (arith, e))
      one_number WriteEmergency ReadProtect e = absurd (omega (arith, e))
