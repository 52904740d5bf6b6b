-- An accepted choice with a candidate has a winner, by one of the three tiers; with none it has nothing.
use Rattle.std.specs.Prelude.{◌≡◌, Bool, true, false, cond, ℕ, ◌+◌, ◌<◌, ltb, Option, Some, None}
use Rattle.std.proofs.Math.Path.{refl, ap}
use Rattle.std.proofs.Common.{sym, ◌∙◌, zero-add, arith}
use mathlib.Core.List.{List, [], ◌∷◌, Memᴰ}
use Rattle.std.proofs.Math.ListN.{length}
use borrow.Author.Tests.{ltb-true, eq-eqb, eqb-true, eqb-false}
use Rattle.lists.specs.Tests.{by-test, cond_same}
use Rattle.lists.specs.Any.{get_or_in, in_at}
use Rattle.lists.specs.Filter.{filter_of, filter_in, filter-has, filter_none}
use Rattle.kinds.specs.declared.vector.PressureVector.{PressureVector}
use Rattle.kinds.specs.declared.focus.FocusState.{FocusState}
use Rattle.kinds.specs.declared.tier.SelectionTier.TheVariants.{None as NoTier, L0, FocusContinued, FocusReselected}
use Rattle.candidate_records.specs.declared.Candidate.{Candidate}
use Rattle.candidate_records.specs.declared.CandidateEstimate.{CandidateEstimate}
use Rattle.candidate_records.specs.Candidates.{candidates_of, estimates_of, candidate_at}
use Rattle.search.specs.Choices.{Choice, choices_from, last_best, lower_score, shorter, is_l0_choice, on_level, saturated, winner_of}
use Rattle.search.specs.Choices.LastBest.{best-some}
use Rattle.search.specs.Search.Reading.{choice_at, no_choice, choices_length, choices_at}
use Rattle.choice.specs.PickAnswer.{PickAnswer}
use Rattle.choice.specs.Choice.{yields, best_within, no_focus, focus_on, answer_of, reselected_by, reselected, continued_by, continued, focus_max_jobs, focused, first_or, choice_of}
use Rattle.choice.specs.Choice.Call.{pick_fault, picked_of}
use Rattle.choice.specs.Choice.Accepted.{pickable}

-- ---- how one wins

-- a candidate at place k wins, f being the focus before: as an L0, which clears the focus; or, where there is no L0, as the best of the focus level, or of a level chosen anew
pub data WonBy (f : FocusState) (k kind level : ℕ) : PickAnswer → Type 0 where
  first : kind ≡ 1 → WonBy f k kind level (answer_of (Some k) no_focus L0)
  again : ¬ (kind ≡ 1) → f.current_focus ≡ Some level → f.streak < focus_max_jobs → WonBy f k kind level (answer_of (Some k) (focus_on level (f.streak + 1)) FocusContinued)
  anew : ¬ (kind ≡ 1) → WonBy f k kind level (answer_of (Some k) (focus_on level 1) FocusReselected)

abbrev WonAs : FocusState → Choice → PickAnswer → Type 0
WonAs f w p = WonBy f w.place w.kind w.level p

module _ (all : List Choice) where
  -- the best of a level that has one
  within-some : (l : ℕ) (c : Choice) → Memᴰ c all → on_level l c ≡ true → (w : Choice) × (best_within l all ≡ w ∷ []) × Memᴰ w all × (w.level ≡ l)
  unfolding best_within yields
  within-some l c m e =
      let b = best-some lower_score on c (filter-has (on_level l) all c m e) in
      rw b.1 (go b.0 b.2 (saturated b.0) refl)
    where
      on : List Choice
      on = filter_of (on_level l) all

      there : (w : Choice) → Memᴰ w on → Memᴰ w all × (w.level ≡ l)
      there w k = let h = filter_in (on_level l) all w k in (h.0, eqb-true w.level l h.1)

      go : (b : Choice) → Memᴰ b on → (t : Bool) → saturated b ≡ t → (w : Choice) × (cond t (last_best shorter (filter_of saturated on)) (b ∷ []) ≡ w ∷ []) × Memᴰ w all × (w.level ≡ l)
      go b i true s =
          let d = best-some shorter (filter_of saturated on) b (filter-has saturated on b i s) in
          let h = there d.0 (filter_in saturated on d.0 d.2).0 in
          (d.0, d.1, h.0, h.1)
      go b i false s = let h = there b i in (b, refl, h.0, h.1)

  -- one of them won
  abbrev OneWon : FocusState → PickAnswer → Type 0
  OneWon f p = (w : Choice) × Memᴰ w all × WonAs f w p

  module _ (f : FocusState) (none : (w : Choice) → Memᴰ w all → ¬ (w.kind ≡ 1)) where
    won-anew : (c : Choice) → Memᴰ c all → OneWon f (reselected all)
    unfolding reselected_by
    won-anew c m =
        let b = best-some lower_score all c m in
        rw b.1 (go b.0.level (within-some b.0.level b.0 b.2 (eq-eqb b.0.level b.0.level refl)))
      where
        go : (l : ℕ) → (w : Choice) × (best_within l all ≡ w ∷ []) × Memᴰ w all × (w.level ≡ l) → OneWon f (answer_of (winner_of (best_within l all)) (focus_on l 1) FocusReselected)
        go l (w, e, k, h) = (w, k, rw (e, ← h) (anew (none w k)))

    won-again : (l : ℕ) → f.current_focus ≡ Some l → f.streak < focus_max_jobs → (c : Choice) → Memᴰ c all → OneWon f (continued l f.streak all)
    unfolding continued_by best_within yields last_best
    won-again l e s c m = go (filter_of (on_level l) all) refl
      where
        go : (on : List Choice) → filter_of (on_level l) all ≡ on → OneWon f (continued l f.streak all)
        go [] q = rw q (won-anew c m)
        go (x ∷ xs) q =
            let i = filter_in (on_level l) all x (rw q (Memᴰ.head refl)) in
            let w = within-some l x i.0 i.1 in
            there w.0 w.1 w.2 w.3
          where
            there : (w : Choice) → best_within l all ≡ w ∷ [] → Memᴰ w all → w.level ≡ l → OneWon f (continued l f.streak all)
            there w b k h = (w, k, rw (b, ← h) (again (none w k) (e ∙ ap Some (sym h)) s))

    won-focused : (c : Choice) → Memᴰ c all → (l : Option ℕ) → f.current_focus ≡ l → OneWon f (focused l f.streak all)
    unfolding focused
    won-focused c m None e = won-anew c m
    won-focused c m (Some l) e =
        by-test (OneWon f) (ltb f.streak focus_max_jobs) _ _ (λ t. won-again l e (ltb-true f.streak focus_max_jobs t) c m) (λ t. won-anew c m)

  one-won : (f : FocusState) (c : Choice) → Memᴰ c all → OneWon f (choice_of f all)
  unfolding choice_of first_or
  one-won f c m = go (filter_of is_l0_choice all) refl
    where
      go : (firsts : List Choice) → filter_of is_l0_choice all ≡ firsts → OneWon f (first_or firsts (focused f.current_focus f.streak all))
      go [] e = won-focused f (λ w k. eqb-false w.kind 1 (filter_none is_l0_choice all e w k)) c m f.current_focus refl
      go (x ∷ xs) e = let i = filter_in is_l0_choice all x (rw e (Memᴰ.head refl)) in (x, i.0, first (eqb-true x.kind 1 i.1))

none_of : (f : FocusState) → choice_of f [] ≡ answer_of None no_focus NoTier
unfolding choice_of first_or focused continued_by reselected_by best_within yields last_best filter_of
none_of f = go f.current_focus
  where
    go : (l : Option ℕ) → focused l f.streak [] ≡ answer_of None no_focus NoTier
    go None = refl
    go (Some l) = cond_same (ltb f.streak focus_max_jobs) _

-- ---- of the call

-- one of some candidates won
pub record Wins (f : FocusState) (cs : List Candidate) (p : PickAnswer) : Type 0 where
  pub place : ℕ
  pub listed : place < length cs
  pub won : WonBy f place (candidate_at cs place).kind (candidate_at cs place).level p

module _ (v : PressureVector) (f : FocusState) (cw ew : List ℕ) (z : pick_fault v cw ew ≡ 0) where
  abbrev cs : List Candidate
  cs = candidates_of cw

  abbrev es : List CandidateEstimate
  es = estimates_of ew

  paired : length cs ≡ length es
  paired = (pickable v cw ew z).paired

  of_list : (p : PickAnswer) → OneWon (choices_from v 0 cs es) f p → Wins f cs p
  of_list p (w, m, b) =
      let s = in_at (choices_from v 0 cs es) no_choice w m in
      let k : s.0 < length cs = omega (arith, s.1, choices_length v 0 cs es paired) in
      let e = s.2 ∙ choices_at v 0 cs es s.0 paired k in
      record { place = s.0; listed = k; won = rw (e, zero-add) at b }

  pub wins : 0 < length cs → Wins f cs (picked_of v f cw ew)
  unfolding picked_of
  wins h =
      let all : List Choice = choices_from v 0 cs es in
      let some : 0 < length all = omega (arith, choices_length v 0 cs es paired) in
      rw (eq-eqb (pick_fault v cw ew) 0 z) (of_list (choice_of f all) (one-won all f (choice_at all 0) (get_or_in all 0 no_choice some)))

  -- with no candidate nothing wins, and the focus is cleared
  pub nothing-wins : length cs ≡ 0 → picked_of v f cw ew ≡ answer_of None no_focus NoTier
  unfolding picked_of choices_from
  nothing-wins e = rw (eq-eqb (pick_fault v cw ew) 0 z) (go cs e)
    where
      go : (some : List Candidate) → length some ≡ 0 → choice_of f (choices_from v 0 some es) ≡ answer_of None no_focus NoTier
      go [] n = none_of f
      go (c ∷ more) n = absurd (omega arith)
