-- An observation of the engine on words is the one of the state in them: of the words that `observe` leaves only those of the window are others.
use Rattle.std.specs.Prelude.{◌≡◌, ℕ, true, List, [], ◌∷◌}
use Rattle.std.proofs.Math.Path.{refl, sym}
use Rattle.std.proofs.Common.{◌∙◌}
use Rattle.std.proofs.lemmas.List.Edits.{sets}
use borrow.Author.Tests.{eq-eqb, ne_eqb}
use Rattle.refusals.specs.Refusals.{none}
use Rattle.kinds.specs.Tuning.{source}
use Rattle.state.specs.declared.GovernorState.{GovernorState}
use Rattle.state.specs.State.{Observed}
use Rattle.state.specs.declared.Window.{Window}
use Rattle.governor.specs.Observe.{observed_of}
use Rattle.windows.specs.declared.EngineSample.{EngineSample}
use Rattle.windows.specs.declared.ReadAmpStats.{ReadAmpStats}
use Rattle.windows.specs.Windows.{window_fault}
use Rattle.pressure.specs.declared.PressureSample.{PressureSample}
use Rattle.engine.specs.Engine.{sample_of, window_of, engine_of}
use Rattle.engine.specs.Engine.WindowFault as window
use Rattle.state_words.specs.StateWords.{is_state, state_from, state_in, state_words, gated, refusal_of, words_after}
use Rattle.observe_words.specs.ObserveWords.Laws.{state_in_lem}

-- a state with another window
abbrev windowed : GovernorState → Window → GovernorState
windowed t w =
    record { mode = t.mode; signals = t.signals; focus = t.focus; streaks = t.streaks; times = t.times; window = w; counters = t.counters }

window-words : (t : GovernorState) (w : Window) → sets (state_words t) 19 (w.last_probed ∷ w.last_resolved ∷ []) ≡ state_words (windowed t w)
unfolding state_words
window-words t w = refl

module _ (ws : List ℕ) (clock : ℕ) (e : EngineSample) (a : ReadAmpStats) (is : is_state ws ≡ true) (fault : ℕ) (known : fault ≡ window_fault source (state_from ws).mode (state_from ws).streaks (state_from ws).window e a) where
  abbrev answer : Observed
  answer = engine_of source (state_in ws) clock e a

  -- a refused answer leaves the words
  stays : (o : Observed) → o ≡ engine_of source (state_from ws) clock e a → ¬ (o.refusal ≡ none) → (o.refusal ≡ refusal_of ws answer) × (ws ≡ words_after ws answer)
  unfolding words_after gated
  stays o f h = rw (state_in_lem ws is, ← f, is, ne_eqb o.refusal none h) (refl, refl)

  pub refused-before : ¬ (fault ≡ none) → (fault ≡ refusal_of ws answer) × (ws ≡ words_after ws answer)
  refused-before h = stays (record { refusal = fault; state = state_from ws }) (window.refused-before source (state_from ws) clock e a fault known h) h

  module _ (good : fault ≡ none) (p : PressureSample) (sample : p ≡ sample_of (state_from ws) e a) (r : ℕ) (mid : List ℕ)
      (said : (r ≡ refusal_of ws (observed_of source (state_in ws) clock p)) × (mid ≡ words_after ws (observed_of source (state_in ws) clock p))) where
    abbrev o : Observed
    o = observed_of source (state_from ws) clock (sample_of (state_from ws) e a)

    number : r ≡ o.refusal
    unfolding gated
    number = said.0 ∙ rw (state_in_lem ws is, is, sample)

    words : mid ≡ words_after ws o
    words = said.1 ∙ rw (state_in_lem ws is, sample)

    pub refused : ¬ (r ≡ none) → (r ≡ refusal_of ws answer) × (mid ≡ words_after ws answer)
    unfolding words_after gated
    refused h =
        let n : ¬ (o.refusal ≡ none) = rw number at h in
        let s = stays (record { refusal = o.refusal; state = state_from ws }) (window.refused source (state_from ws) clock e a fault known good o refl n) n in
        let u : words_after ws o ≡ ws = rw (is, ne_eqb o.refusal none n) in
        (number ∙ s.0, words ∙ u ∙ s.1)

    pub accepted : r ≡ none → (w : Window) → w ≡ window_of a → (none ≡ refusal_of ws answer) × (sets mid 19 (w.last_probed ∷ w.last_resolved ∷ []) ≡ words_after ws answer)
    unfolding words_after gated
    accepted h w new =
        let n : o.refusal ≡ none = sym number ∙ h in
        let m : mid ≡ state_words o.state = words ∙ rw (is, eq-eqb o.refusal none n) in
        let f = window.accepted source (state_from ws) clock e a fault known good o refl n w new in
        rw (state_in_lem ws is, ← f, is, eq-eqb o.refusal none n, m) (sym n, window-words o.state w)
