-- The kept decisions, one at a time, taken from the front; and their words, by place.
use Rattle.std.specs.Prelude.{◌≡◌, Bool, true, false, List, [], ◌++◌, length, take, drop, get_or, ltb}
use Rattle.std.proofs.Math.Path.{refl}
use Rattle.std.proofs.Common.{sym, ◌∙◌, ap, zero-add, add-zero, add-one, append_assoc, length-drop, length-take-le, get_or-take, get_or-drop, get_or-append-add, ltb-true, ltb-false}
use Prim.Native.Nat.{ℕ, zero, suc, ◌+◌, ◌-◌, ◌*◌, ◌/◌, ◌%◌, ◌≤◌, ◌<◌}
use native.Mathlib.Omega.{arith}
use Rattle.std.proofs.Math.ListN.{length-append, get_or-append}
use Rattle.std.proofs.Math.Seq.{take-add, drop-drop}
use Rattle.decisions.specs.Decision.{decision_width}
use Rattle.decision_log.specs.declared.DecisionLog.{DecisionLog}
use Rattle.decision_log.specs.Log.{max_kept, log_words, kept_place, place_words, kept_from, kept_words}

pub place-length : (ws : List ℕ) (p : ℕ) → length ws ≡ log_words → p < max_kept → length (place_words ws p) ≡ decision_width
place-length ws p e h = length-take-le decision_width (drop (decision_width * p) ws) (simp length-drop (omega arith))

pub kept_cons : (g : DecisionLog) (ws : List ℕ) (k n : ℕ) → kept_from g ws k (suc n) ≡ place_words ws (kept_place g k) ++ kept_from g ws (suc k) n
unfolding kept_from
kept_cons g ws k n = refl

-- the k-th of n is the next
pub kept_next : (g : DecisionLog) (ws : List ℕ) (n k : ℕ) → k < n → kept_from g ws k (n - k) ≡ place_words ws (kept_place g k) ++ kept_from g ws (k + 1) (n - (k + 1))
kept_next g ws n k h = let e : n - k ≡ suc (n - (k + 1)) = omega arith in rw (e, kept_cons, add-one k)

pub kept-none : (g : DecisionLog) (ws : List ℕ) (n k : ℕ) → n ≤ k → kept_from g ws k (n - k) ≡ []
unfolding kept_from
kept-none g ws n k h = let e : n - k ≡ 0 = omega arith in rw e

-- those before the k-th of all, and those from it on
pub kept-split : (g : DecisionLog) (ws : List ℕ) (j k n : ℕ) → kept_from g ws j (k + n) ≡ kept_from g ws j k ++ kept_from g ws (j + k) n
unfolding kept_from
kept-split g ws j zero n = rw (zero-add, add-zero)
kept-split g ws j (suc k) n =
    let e : suc k + n ≡ suc (k + n) = omega arith in
    let f : suc j + k ≡ j + suc k = omega arith in
    rw (e, kept-split g ws (suc j) k n, f) (sym (append_assoc (place_words ws (kept_place g j)) (kept_from g ws (suc j) k) _))

module _ (g : DecisionLog) (ws : List ℕ) (e : length ws ≡ log_words) where
  pub kept-length : (k n : ℕ) → length (kept_from g ws k n) ≡ decision_width * n
  unfolding kept_from
  kept-length k zero = refl
  kept-length k (suc n) =
      omega (arith, length-append (place_words ws (kept_place g k)) (kept_from g ws (suc k) n), place-length ws (kept_place g k) e (omega arith), kept-length (suc k) n)

  word-from : (k n i : ℕ) → i < decision_width * n → get_or (kept_from g ws k n) i 0 ≡ get_or ws (decision_width * kept_place g (k + i / decision_width) + i % decision_width) 0
  word-from k zero i h = absurd (omega arith)
  word-from k (suc n) i h = rw (kept_cons g ws k n) (by (λ s. word-from (suc k) n (i - decision_width) (omega arith)) (ltb i decision_width) refl)
    where
      p : List ℕ
      p = place_words ws (kept_place g k)

      l : length p ≡ decision_width
      l = place-length ws (kept_place g k) e (omega arith)

      by : (decision_width ≤ i → get_or (kept_from g ws (suc k) n) (i - decision_width) 0 ≡ get_or ws (decision_width * kept_place g (suc k + (i - decision_width) / decision_width) + (i - decision_width) % decision_width) 0)
          → (b : Bool) → ltb i decision_width ≡ b → get_or (p ++ kept_from g ws (suc k) n) i 0 ≡ get_or ws (decision_width * kept_place g (k + i / decision_width) + i % decision_width) 0
      by more true t =
          let s = ltb-true i decision_width t in
          let a : k + i / decision_width ≡ k = omega arith in
          let b : i % decision_width ≡ i = omega arith in
          get_or-append p (kept_from g ws (suc k) n) 0 i (omega (arith, l))
          ∙ get_or-take decision_width (drop (decision_width * kept_place g k) ws) i 0 s
          ∙ get_or-drop (decision_width * kept_place g k) ws i 0
          ∙ rw (a, b)
      by more false t =
          let s = ltb-false i decision_width t in
          let a : i ≡ length p + (i - decision_width) = omega (arith, l) in
          let b : suc k + (i - decision_width) / decision_width ≡ k + i / decision_width = omega arith in
          let c : (i - decision_width) % decision_width ≡ i % decision_width = omega arith in
          ap (λ (j : ℕ). get_or (p ++ kept_from g ws (suc k) n) j 0) a
          ∙ get_or-append-add p (kept_from g ws (suc k) n) (i - decision_width) 0
          ∙ more s
          ∙ rw (b, c)

  -- the i-th of all kept words
  pub kept_word : (i : ℕ) → i < decision_width * g.count → get_or (kept_words g ws) i 0 ≡ get_or ws (decision_width * kept_place g (i / decision_width) + i % decision_width) 0
  kept_word i h = word-from 0 g.count i h ∙ rw zero-add

-- a log that begins at place 0 keeps the front of its words
module _ (g : DecisionLog) (ws : List ℕ) (z : g.first ≡ 0) where
  kept_on : (k n : ℕ) → k + n ≤ max_kept → kept_from g ws k n ≡ take (decision_width * n) (drop (decision_width * k) ws)
  unfolding kept_from
  kept_on k zero h = refl
  kept_on k (suc n) h =
      let p : kept_place g k ≡ k = omega arith in
      let a : decision_width * suc n ≡ decision_width + decision_width * n = omega arith in
      let b : decision_width * suc k ≡ decision_width * k + decision_width = omega arith in
      rw (p, kept_on (suc k) n (omega arith), a, take-add decision_width (decision_width * n) (drop (decision_width * k) ws), drop-drop decision_width (decision_width * k) ws, b)

  pub kept-front : g.count ≤ max_kept → kept_words g ws ≡ take (decision_width * g.count) ws
  kept-front h = kept_on 0 g.count (omega arith)
