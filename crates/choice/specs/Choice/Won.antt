-- By which comparison a choice wins where no L0 is.
use Rattle.std.specs.Prelude.{◌≡◌, refl, Bool, cond, ℕ, T, ltb, Option, Some, None}
use Rattle.std.proofs.Common.{sym, ◌∙◌, subst, true≢false, arith, ltb-true, ltb-false, le-ltb, eqb-true, eq-eqb}
use Rattle.std.proofs.Math.Bool.{true, false}
use mathlib.Core.List.Memᴰ
use mathlib.Core.List.{List, [], ◌∷◌, Memᴰ}
use Rattle.std.specs.Float.Ieee.{is_nan, lt}
use Rattle.std.specs.Float.Ieee.Bits.{is_true}
use Rattle.std.proofs.lemmas.Bool.{not-true}
use Rattle.arith.specs.Floats.Order.{le_is, le_trans, lt-le, not_lt_le}
use Rattle.kinds.specs.declared.tier.SelectionTier.{SelectionTier}
use Rattle.kinds.specs.declared.tier.SelectionTier.TheVariants.{None as NoTier, L0, FocusContinued, FocusReselected}
use Rattle.lists.specs.Filter.{filter_of, filter_in}
use Rattle.search.specs.Choices.{Choice, last_best, lower_score, shorter, saturated, on_level, winner_of}
use Rattle.choice.specs.Choice.{yields, best_within, focus_max_jobs, reselected_by, reselected, continued_by, continued, focused}
use Rattle.search.specs.Choices.LastBest.{Each, LastBest, best_in, only-best, filter-best, Orders, last-best, none_above}

-- ---- the two orders

-- its score is no NaN
abbrev pub Number : Choice → Type 0
Number c = is_nan c.score ≡ false

score-order : Orders lower_score Number
score-order =
    record {
      asym = λ x y p q h. not-true (lt y.score x.score) (sym (le_is x.score y.score p q) ∙ is_true _ (lt-le x.score y.score (subst T (sym h) tt)));
      trans = λ x y z p q r h k.
          not-true (lt z.score x.score)
          (sym (le_is x.score z.score p r) ∙ is_true _ (le_trans x.score y.score z.score (not_lt_le x.score y.score p q h) (not_lt_le y.score z.score q r k)));
    }

length-order : Orders shorter (λ c. Unit)
length-order =
    record {
      asym = λ x y p q h. le-ltb y.batch_len x.batch_len (omega (arith, ltb-true x.batch_len y.batch_len h));
      trans = λ x y z p q r h k. le-ltb z.batch_len x.batch_len (omega (arith, ltb-false y.batch_len x.batch_len h, ltb-false z.batch_len y.batch_len k));
    }

-- ---- how it won

-- the best score compared is the top's; the top wins, or where it is saturated the longest such batch of its level
pub record Won (all compared : List Choice) (w : Choice) : Type 0 where
  pub top : Choice
  pub best : LastBest lower_score compared top
  pub highest : Each (λ c. lower_score top c ≡ false) compared
  pub kept : saturated top ≡ false → w ≡ top
  pub longest : saturated top ≡ true → LastBest shorter (filter_of saturated (filter_of (on_level top.level) all)) w

-- the choices compared: the focus level's while focus goes on, else all
abbrev pub compared_by : SelectionTier → Option ℕ → List Choice → List Choice
compared_by NoTier f all = all
compared_by L0 f all = all
compared_by FocusContinued None all = all
compared_by FocusContinued (Some l) all = filter_of (on_level l) all
compared_by FocusReselected f all = all

-- a choice of the list won, at place k
abbrev pub WonAt : List Choice → ℕ → List Choice → Type 0
WonAt all k compared = (w : Choice) × Memᴰ w all × (w.place ≡ k) × Won all compared w

none : {X : Type 0} (k : ℕ) → None ≡ Some k → X
none k e = let z : ◌≡◌ {A = ℕ} 0 1 = cc in absurd (omega arith)

first_found : (cs : List Choice) (k : ℕ) → winner_of cs ≡ Some k → (c : Choice) × Memᴰ c cs × (c.place ≡ k)
first_found [] k e = none k e
first_found (c ∷ cs) k e = (c, Memᴰ.head refl, cc)

module _ (all : List Choice) (ps : Each Number all) where
  within-won : (l : ℕ) (w : Choice) → Memᴰ w (best_within l all) → Memᴰ w all × Won all (filter_of (on_level l) all) w
  unfolding best_within yields
  within-won l w m = go (last_best lower_score on) (last-best lower_score Number score-order on numbers) m
    where
      on : List Choice
      on = filter_of (on_level l) all

      numbers : Each Number on
      numbers c k = ps c (filter_in (on_level l) all c k).0

      go : (bests : List Choice) → Each (LastBest lower_score on) bests → Memᴰ w (yields on bests) → Memᴰ w all × Won all on w
      go [] f k = absurd (Memᴰ.not-nil k)
      go (b ∷ bs) f k = of_two (saturated b) refl k
        where
          best : LastBest lower_score on b
          best = f b (Memᴰ.head refl)

          highest : Each (λ c. lower_score b c ≡ false) on
          highest = none_above lower_score Number score-order on b numbers best

          there : Memᴰ b all × (on_level l b ≡ true)
          there = filter_in (on_level l) all b (best_in lower_score on b best)

          of_two : (t : Bool) → saturated b ≡ t → Memᴰ w (cond t (last_best shorter (filter_of saturated on)) (b ∷ [])) → Memᴰ w all × Won all on w
          of_two true e q =
              let long = last-best shorter (λ c. Unit) length-order (filter_of saturated on) (λ c i. tt) w q in (
                (filter_in (on_level l) all w (filter_in saturated on w (best_in shorter (filter_of saturated on) w long)).0).0,
                record {
                  top = b;
                  best = best;
                  highest = highest;
                  kept = λ s. absurd (true≢false (sym e ∙ s));
                  longest = λ s. subst (λ (n : ℕ). LastBest shorter (filter_of saturated (filter_of (on_level n) all)) w) (sym (eqb-true b.level l there.1)) long;
                },
              )
          of_two false e q =
              let is : w ≡ b = Memᴰ.eq_of_singleton q in
              (subst (λ (c : Choice). Memᴰ c all) (sym is) there.0, record { top = b; best = best; highest = highest; kept = λ s. is; longest = λ s. absurd (true≢false (sym s ∙ e)) })

  -- the best overall is the best of its level
  overall : (t w : Choice) → LastBest lower_score all t → Won all (filter_of (on_level t.level) all) w → Won all all w
  overall t w b h =
      let on = on_level t.level in
      let same : h.top ≡ t = only-best lower_score (filter_of on all) h.top t h.best (filter-best lower_score on all t (eq-eqb t.level t.level refl) b) in
      record {
        top = h.top;
        best = subst (LastBest lower_score all) (sym same) b;
        highest = subst (λ (x : Choice). Each (λ c. lower_score x c ≡ false) all) (sym same) (none_above lower_score Number score-order all t ps b);
        kept = h.kept;
        longest = h.longest;
      }

  -- ---- of an answer

  reselected-at : (k : ℕ) (f : Option ℕ) (tops : List Choice) → Each (LastBest lower_score all) tops → (reselected_by all tops).winner ≡ Some k → WonAt all k (compared_by (reselected_by all tops).tier f all)
  unfolding reselected_by
  reselected-at k f [] b e = none k e
  reselected-at k f (t ∷ ts) b e =
      let w = first_found (best_within t.level all) k e in
      let h = within-won t.level w.0 w.1 in
      (w.0, h.0, w.2, overall t w.0 (b t (Memᴰ.head refl)) h.1)

  continued-at : (k l streak : ℕ) (bests : List Choice) → ((w : Choice) → Memᴰ w bests → Memᴰ w all × Won all (filter_of (on_level l) all) w) → (continued_by l streak all bests).winner ≡ Some k → WonAt all k (compared_by (continued_by l streak all bests).tier (Some l) all)
  unfolding continued_by
  continued-at k l streak [] f e = reselected-at k (Some l) (last_best lower_score all) (last-best lower_score Number score-order all ps) e
  continued-at k l streak (b ∷ bs) f e = let h = f b (Memᴰ.head refl) in (b, h.0, cc, h.1)

  pub focused-at : (k : ℕ) (f : Option ℕ) (streak : ℕ) → (focused f streak all).winner ≡ Some k → WonAt all k (compared_by (focused f streak all).tier f all)
  unfolding focused
  focused-at k None streak e = reselected-at k None (last_best lower_score all) (last-best lower_score Number score-order all ps) e
  focused-at k (Some l) streak e = go (ltb streak focus_max_jobs) e
    where
      go : (t : Bool) → (cond t (continued l streak all) (reselected all)).winner ≡ Some k
          → WonAt all k (compared_by (cond t (continued l streak all) (reselected all)).tier (Some l) all)
      go true q = continued-at k l streak (best_within l all) (within-won l) q
      go false q = reselected-at k (Some l) (last_best lower_score all) (last-best lower_score Number score-order all ps) q
