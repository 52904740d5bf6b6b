-- What a reader of `pick_best_cause_aware` wants to know: the winner is in the list, with an L0 nothing else matters, and otherwise no score compared is above the winner's.
use Rattle.std.proofs.Math.Path.{◌≡◌, refl, sym, ap}
use Rattle.std.proofs.Common.{◌∙◌, subst, true≢false, ltb-false, eq-eqb, eqb-true}
use Rattle.std.specs.Prelude.{Bool, not, cond, ◌&&◌, ◌||◌, ℕ, suc, ◌+◌, ◌^◌, ◌<◌, ltb, Float, Some, None}
use Rattle.std.proofs.Math.Bool.{true, false}
use mathlib.Core.List.Memᴰ
use mathlib.Core.List.{List, [], ◌∷◌, Memᴰ}
use Rattle.std.proofs.Math.Logic.{⊎_elim}
use native.Mathlib.Omega.{arith}
use Rattle.std.proofs.Math.ListN.{length}
use Rattle.std.proofs.Math.Dec.{eqb}
use Rattle.std.specs.Float.{nan, inf, fin}
use Rattle.std.specs.Float.Ieee.{is_nan}
use Rattle.std.proofs.lemmas.Bool.{not-false}
use Rattle.kinds.specs.declared.vector.PressureVector.{PressureVector}
use Rattle.kinds.specs.declared.focus.FocusState.{FocusState}
use Rattle.candidate_records.specs.declared.Candidate.{Candidate}
use Rattle.candidate_records.specs.declared.CandidateEstimate.{CandidateEstimate}
use Rattle.kinds.specs.declared.tier.SelectionTier.TheVariants.{None as NoTier, L0}
use Rattle.choice.specs.PickAnswer.{PickAnswer}
use Rattle.candidate_records.specs.Candidates.{candidates_of, estimates_of}
use Rattle.candidate_faults.specs.Candidates.{in_unit, estimate_out}
use Rattle.scores.specs.Score.{score_of}
use Rattle.lists.specs.Filter.{filter_of, filter_in}
use Rattle.search.specs.Choices.{Choice, choices_from, is_l0_choice, winner_of}
use Rattle.choice.specs.Choice.{no_focus, answer_of, focused, first_or, choice_of}
use Rattle.choice.specs.Choice.Call.{pick_checks, pick_fault, picked_of}
use Rattle.refusals.specs.Checks.{none_found}
use Rattle.lists.specs.Any.{any-no}
use Rattle.lists.specs.Tests.{neither}
use Rattle.search.specs.Search.{first_l0}
use Rattle.search.specs.Search.Reading.{choice_at, l0_is}
use Rattle.choice.specs.Choice.Accepted.{pickable}
use Rattle.choice.specs.Choice.Tiers.{first-at, first-none}
use Rattle.arith.specs.Floats.Range.{Plain}
use Rattle.scores.specs.Score.Range.{InRange, score_plain}
use Rattle.search.specs.Choices.LastBest.{Each}
use Rattle.choice.specs.Choice.Won.{Number, Won, WonAt, compared_by, focused-at}

-- ---- what an accepted call has

all_true : (a b c : Bool) → a && (b && c) ≡ true → (a ≡ true) × (b ≡ true) × (c ≡ true)
all_true true true c e = (refl, refl, e)
all_true true false c e = absurd (true≢false (sym e))
all_true false b c e = absurd (true≢false (sym e))

pub in_range : (v : PressureVector) (cw ew : List ℕ) → pick_fault v cw ew ≡ 0 → (e : CandidateEstimate) → Memᴰ e (estimates_of ew) → InRange v e
unfolding pick_fault estimate_out
in_range v cw ew z e m =
    let c = none_found (pick_checks v cw ew) tt z in
    let sizes = ltb (2 ^ 50) e.estimated_rewrite_bytes || ltb (2 ^ 53) e.age in
    let relief = in_unit e.l0_relief && (in_unit e.debt_relief && in_unit e.read_relief) in
    let b = neither (not relief) sizes (any-no estimate_out (estimates_of ew) c.1.1.1.0 e m) in
    let s = neither (ltb (2 ^ 50) e.estimated_rewrite_bytes) (ltb (2 ^ 53) e.age) b.1 in
    record {
      vector = all_true (in_unit v.l0) (in_unit v.deep_debt) (in_unit v.read) (not-false _ c.1.1.0);
      reliefs = all_true (in_unit e.l0_relief) (in_unit e.debt_relief) (in_unit e.read_relief) (not-false relief b.0);
      rewrite = omega (arith, ltb-false (2 ^ 50) e.estimated_rewrite_bytes s.0);
      aged = omega (arith, ltb-false (2 ^ 53) e.age s.1);
    }

plain_number : (k : ℕ) (x : Float) → Plain k x → is_nan x ≡ false
unfolding is_nan
plain_number k (fin false m e) h = refl
plain_number k nan h = elim h [ ]
plain_number k (inf _) h = elim h [ ]
plain_number k (fin true m e) h = elim h [ ]

module _ (v : PressureVector) where
  numbers : (i : ℕ) (cs : List Candidate) (es : List CandidateEstimate) → ((e : CandidateEstimate) → Memᴰ e es → InRange v e) → Each Number (choices_from v i cs es)
  unfolding choices_from
  numbers i [] es r c m = absurd (Memᴰ.not-nil m)
  numbers i (d ∷ cs) [] r c m = absurd (Memᴰ.not-nil m)
  numbers i (d ∷ cs) (e ∷ es) r c m =
      ⊎_elim (λ h. rw h (plain_number 515 (score_of v e) (score_plain v e (r e (Memᴰ.head refl))))) (numbers (suc i) cs es (λ x k. r x (Memᴰ.tail k)) c) (Memᴰ.cases_cons m)

  -- each stands where its place says
  stands : (i : ℕ) (cs : List Candidate) (es : List CandidateEstimate) → Each (λ c. (n : ℕ) × (n < length cs) × (c.place ≡ i + n) × (c ≡ choice_at (choices_from v i cs es) n)) (choices_from v i cs es)
  unfolding choices_from
  stands i [] es c m = absurd (Memᴰ.not-nil m)
  stands i (d ∷ cs) [] c m = absurd (Memᴰ.not-nil m)
  stands i (d ∷ cs) (e ∷ es) c m =
      ⊎_elim (λ h. (0, omega arith, omega (arith, ap (λ (x : Choice). x.place) h), h)) (λ k. let s = stands (suc i) cs es c k in (suc s.0, omega (arith, s.1), omega (arith, s.2), s.3)) (Memᴰ.cases_cons m)

-- ---- the winner

module _ (v : PressureVector) (f : FocusState) (cw ew : List ℕ) where
  abbrev all : List Choice
  all = choices_from v 0 (candidates_of cw) (estimates_of ew)

  abbrev others : PickAnswer
  others = focused f.current_focus f.streak all

  module _ (z : pick_fault v cw ew ≡ 0) where
    picked_is : picked_of v f cw ew ≡ choice_of f all
    unfolding picked_of
    picked_is = rw (eq-eqb (pick_fault v cw ew) 0 z)

    l0-first : winner_of (filter_of is_l0_choice all) ≡ first_l0 0 (candidates_of cw)
    l0-first = l0_is v 0 (candidates_of cw) (estimates_of ew) (pickable v cw ew z).paired

    -- with an L0 the answer is the first one's place, whatever the vector, the focus and the estimates
    pub l0-wins : (k : ℕ) → first_l0 0 (candidates_of cw) ≡ Some k → picked_of v f cw ew ≡ answer_of (Some k) no_focus L0
    unfolding choice_of
    l0-wins k e = picked_is ∙ sym (first-at k (filter_of is_l0_choice all) others (sym (l0-first ∙ e)))

    ps : Each Number all
    ps = numbers v 0 (candidates_of cw) (estimates_of ew) (in_range v cw ew z)

    -- it is the choice at its place
    won-there : (k : ℕ) (compared : List Choice) → WonAt all k compared → Won all compared (choice_at all k)
    won-there k compared w =
        let s = stands v 0 (candidates_of cw) (estimates_of ew) w.0 w.1 in
        let q : s.0 ≡ k = omega (arith, s.2, w.2) in
        subst (λ (n : ℕ). Won all compared (choice_at all n)) q (subst (Won all compared) s.3 w.3)

    -- with none, no score compared is above the winner's and none after it equals it, unless it yields to the longest saturated batch of its level
    pub best-wins : (k : ℕ) → first_l0 0 (candidates_of cw) ≡ None → (picked_of v f cw ew).winner ≡ Some k → Won all (compared_by (picked_of v f cw ew).tier f.current_focus all) (choice_at all k)
    unfolding choice_of
    best-wins k n e =
        let p : picked_of v f cw ew ≡ others = picked_is ∙ sym (first-none (filter_of is_l0_choice all) others (sym (l0-first ∙ n))) in
        rw p (won-there k _ (focused-at all ps k f.current_focus f.streak (rw p at e)))

    listed : (k : ℕ) → (choice_of f all).winner ≡ Some k → (c : Choice) × Memᴰ c all × (c.place ≡ k)
    unfolding choice_of first_or
    listed k e = go (filter_of is_l0_choice all) refl e
      where
        go : (firsts : List Choice) → filter_of is_l0_choice all ≡ firsts → (first_or firsts others).winner ≡ Some k → (c : Choice) × Memᴰ c all × (c.place ≡ k)
        go [] n q = let w = focused-at all ps k f.current_focus f.streak q in (w.0, w.1, w.2)
        go (c ∷ cs) n q = (c, (filter_in is_l0_choice all c (subst (Memᴰ c) (sym n) (Memᴰ.head refl))).0, cc)

  -- the winner's place is below the number of candidates, refused or not
  pub winner-below : (k : ℕ) → (picked_of v f cw ew).winner ≡ Some k → k < length (candidates_of cw)
  unfolding picked_of
  winner-below k e = go (eqb (pick_fault v cw ew) 0) refl e
    where
      go : (t : Bool) → eqb (pick_fault v cw ew) 0 ≡ t → (cond t (choice_of f all) (record { refusal = pick_fault v cw ew; winner = None; focus = f; tier = NoTier })).winner ≡ Some k → k < length (candidates_of cw)
      go true t h =
          let w = listed (eqb-true (pick_fault v cw ew) 0 t) k h in
          let s = stands v 0 (candidates_of cw) (estimates_of ew) w.0 w.1 in
          omega (arith, s.1, s.2, w.2)
      go false t h = let z : ◌≡◌ {A = ℕ} 0 1 = cc in absurd (omega arith)
