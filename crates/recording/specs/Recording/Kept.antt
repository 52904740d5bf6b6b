-- The kept decisions after one more is written: to a free place, or to the oldest's.
use Rattle.std.specs.Prelude.{◌≡◌, refl, ℕ, zero, suc, ◌+◌, ◌-◌, ◌*◌, ◌≤◌, ◌<◌, Bool, true, false, ltb, List, ◌++◌, length, take, drop}
use Rattle.std.proofs.Common.{ap, ap₂, arith, zero-add, add-zero, add-suc, add-one, ltb-true, ltb-false, append_assoc, append-nil, drop_at}
use Rattle.std.proofs.lemmas.List.Edits.{sets}
use Rattle.decisions.specs.Decision.{decision_width}
use Rattle.decision_log.specs.declared.DecisionLog.{DecisionLog}
use Rattle.decision_log.specs.Log.{max_kept, log_words, kept_place, place_words, kept_from}
use Rattle.decision_log.specs.Log.Kept.{place-length, kept_cons}
use Rattle.recording.specs.Recording.Store.{sets_drop, sets_before, sets_here}

-- a place's words after a store to a place
other_place : (ws part : List ℕ) (p q : ℕ) → length ws ≡ log_words → length part ≡ decision_width → p < max_kept → q < max_kept → (q ≡ p → ⊥)
    → place_words (sets ws (decision_width * p) part) q ≡ place_words ws q
other_place ws part p q e l hp hq ne = by (ltb q p) refl
  where
    by : (b : Bool) → ltb q p ≡ b → place_words (sets ws (decision_width * p) part) q ≡ place_words ws q
    by true t = let h = ltb-true q p t in sets_before ws part (decision_width * p) (omega arith) (decision_width * q) decision_width (omega arith)
    by false t = let h = ltb-false q p t in ap (take decision_width) (sets_drop ws part (decision_width * p) (omega arith) (decision_width * q) (omega arith))

same_place : (ws part : List ℕ) (p : ℕ) → length ws ≡ log_words → length part ≡ decision_width → p < max_kept → place_words (sets ws (decision_width * p) part) p ≡ part
same_place ws part p e l hp = rw l at (sets_here ws part (decision_width * p) (omega arith))

-- kept decisions in other places stand as they did
kept-other : (g : DecisionLog) (ws part : List ℕ) (p k n : ℕ) → length ws ≡ log_words → length part ≡ decision_width → p < max_kept
    → ((j : ℕ) → k ≤ j → j < k + n → kept_place g j ≡ p → ⊥)
    → kept_from g (sets ws (decision_width * p) part) k n ≡ kept_from g ws k n
unfolding kept_from
kept-other g ws part p k zero e l hp ne = refl
kept-other g ws part p k (suc n) e l hp ne =
    ap₂ (λ (a b : List ℕ). a ++ b)
    (other_place ws part p (kept_place g k) e l hp (omega arith) (ne k (omega arith) (omega arith)))
    (kept-other g ws part p (suc k) n e l hp (λ j a b. ne j (omega arith) (omega arith)))

kept_snoc : (g : DecisionLog) (ws : List ℕ) (k n : ℕ) → kept_from g ws k (suc n) ≡ kept_from g ws k n ++ place_words ws (kept_place g (k + n))
unfolding kept_from
kept_snoc g ws k zero = rw (append-nil, add-zero)
kept_snoc g ws k (suc n) = let e : k + suc n ≡ suc k + n = omega arith in rw (e, kept_snoc g ws (suc k) n) (simp append_assoc)

-- a log whose places are another's, m places on
kept-moved : (g h : DecisionLog) (ws : List ℕ) (m k n : ℕ) → ((j : ℕ) → kept_place h j ≡ kept_place g (m + j)) → kept_from h ws k n ≡ kept_from g ws (m + k) n
unfolding kept_from
kept-moved g h ws m k zero e = refl
kept-moved g h ws m k (suc n) e =
    ap₂ (λ (a b : List ℕ). a ++ b) (ap (place_words ws) (e k)) (rw (← add-suc m k) (kept-moved g h ws m (suc k) n e))

-- all but one
abbrev others : ℕ
others = max_kept - 1

module _ (g h : DecisionLog) (ws part : List ℕ) (e : length ws ≡ log_words) (l : length part ≡ decision_width) where
  -- a place after the newest: one more is kept
  pub kept-grown : (n : ℕ) → h.first ≡ g.first → n < max_kept
      → kept_from h (sets ws (decision_width * kept_place g n) part) 0 (n + 1) ≡ kept_from g ws 0 n ++ part
  kept-grown n f s =
      let b : kept_place g n < max_kept = omega arith in
      let ne : (j : ℕ) → 0 ≤ j → j < 0 + n → kept_place g j ≡ kept_place g n → ⊥ = omega arith in
      rw (
        add-one n,
        kept-moved g h (sets ws (decision_width * kept_place g n) part) 0 0 (suc n) (λ j. rw (f, zero-add)),
        kept_snoc,
        kept-other g ws part (kept_place g n) 0 n e l b ne,
        zero-add n,
        same_place ws part (kept_place g n) e l b,
      )

  -- the oldest's place, where all are kept: the oldest goes
  pub kept_replaced : h.first ≡ kept_place g 1 → g.first < max_kept
      → kept_from h (sets ws (decision_width * g.first) part) 0 max_kept ≡ drop decision_width (kept_from g ws 0 max_kept) ++ part
  kept_replaced f s =
      let on : (j : ℕ) → kept_place h j ≡ kept_place g (1 + j) = omega arith in
      let ne : (j : ℕ) → 1 ≤ j → j < 1 + others → kept_place g j ≡ g.first → ⊥ = omega arith in
      let last : kept_place h others ≡ g.first = omega arith in
      let b : kept_place g 0 < max_kept = omega arith in
      rw (
        kept_snoc h (sets ws (decision_width * g.first) part) 0 others,
        kept-moved g h (sets ws (decision_width * g.first) part) 1 0 others on,
        kept-other g ws part g.first 1 others e l s ne,
        last,
        same_place ws part g.first e l s,
        kept_cons g ws 0 others,
        drop_at (place_words ws (kept_place g 0)) (kept_from g ws 1 others) decision_width (place-length ws (kept_place g 0) e b),
      )
