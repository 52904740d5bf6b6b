-- An observation of the engine that nothing refuses before its sample is known: `observe` of the sample answers, and the new window is kept.
-- Assumes nothing.
use Rattle.std.specs.Prelude.{◌≡◌, refl, Bool, true, false, cond, not, ◌||◌, [], ◌∷◌, ℕ, ◌-◌, ◌^◌, ◌≤◌, ◌+◌, ltb, eqb}
use Rattle.std.proofs.Common.{arith}
use borrow.Author.Tests.{ltb-false, ne_eqb}
use Rattle.counts.specs.Counts.{any_large, saturating_add}
use Rattle.refusals.specs.Refusals.{◌gives◌, first_fault, none, bad_state, too_large, counter_full}
use Rattle.refusals.specs.Checks.{none_found}
use Rattle.kinds.specs.Tuning.{Tuning}
use Rattle.sound.specs.Sound.{sound_of}
use Rattle.state.specs.declared.Window.{Window}
use Rattle.state.specs.declared.GovernorState.{GovernorState}
use Rattle.state.specs.State.{Observed}
use Rattle.governor.specs.Observe.{counters_full, observe_fault, accepted_of, observed_of}
use Rattle.windows.specs.declared.EngineSample.{EngineSample}
use Rattle.windows.specs.declared.ReadAmpStats.{ReadAmpStats}
use Rattle.windows.specs.Windows.{probed_sum, deltas_large, window_checks, window_fault}
use Rattle.engine.specs.Engine.{sample_of, window_of, engine_fault, engine_of}

abbrev in_order : Bool → Bool → Bool → ℕ
in_order bad large full = first_fault (bad gives bad_state ∷ large gives too_large ∷ full gives counter_full ∷ [])

-- the window's checks and then those of `observe` find the same as all of them in one list
one_after_other : (u l d f c : Bool) → in_order u (l || d) (f || c) ≡ cond (eqb (in_order u (l || d) f) none) (in_order u l c) (in_order u (l || d) f)
one_after_other true l d f c = refl
one_after_other false true d f c = refl
one_after_other false false true f c = refl
one_after_other false false false true c = refl
one_after_other false false false false c = refl

module _ (G : Tuning) (s : GovernorState) (now : ℕ) (e : EngineSample) (a : ReadAmpStats) (fault : ℕ) (known : fault ≡ window_fault G s.mode s.streaks s.window e a) where
  pub sum_fits : fault ≡ none → probed_sum a ≤ 2 ^ 64 - 1
  unfolding window_fault
  sum_fits h = ltb-false (2 ^ 64 - 1) (probed_sum a) (none_found (window_checks G s.mode s.streaks s.window e a) tt (rw known at h)).1.1.0

  engine_fault_lem : engine_fault G s now e a ≡ cond (eqb fault none) (observe_fault G s now (sample_of s e a)) fault
  unfolding engine_fault window_fault observe_fault
  engine_fault_lem = rw known (one_after_other (not (sound_of G s.mode s.streaks)) (any_large e.l0_count e.l0_write_stall_trigger e.backlog_levels) (deltas_large s.window a) (ltb (2 ^ 64 - 1) (probed_sum a)) (counters_full G s now (sample_of s e a)))

  pub refused-before : (fault ≡ none → ⊥) → record { refusal = fault; state = s } ≡ engine_of G s now e a
  unfolding engine_of
  refused-before h = simp (engine_fault_lem, ne_eqb fault none h)

  module _ (h : fault ≡ none) (o : Observed) (answer : o ≡ observed_of G s now (sample_of s e a)) where
    pub refused : (o.refusal ≡ none → ⊥) → record { refusal = o.refusal; state = s } ≡ engine_of G s now e a
    unfolding engine_of observed_of
    refused r = simp (engine_fault_lem, h, answer, ne_eqb _ none (rw answer at r))

    -- where `observe` accepts, only the window is another
    pub accepted : o.refusal ≡ none → (w : Window) → w ≡ window_of a
        → record { refusal = o.refusal; state = record { mode = o.state.mode; signals = o.state.signals; focus = o.state.focus; streaks = o.state.streaks; times = o.state.times; window = w; counters = o.state.counters } } ≡ engine_of G s now e a
    unfolding engine_of observed_of accepted_of
    accepted r w new = simp (engine_fault_lem, h, answer, rw answer at r, new)

-- a sum that fits is what a sum that stops at the largest u64 is
pub exact : (a b : ℕ) → a + b ≤ 2 ^ 64 - 1 → saturating_add a b ≡ a + b
exact a b h = omega (arith, h)
