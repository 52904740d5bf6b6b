-- A decision comes back from its words, and words that are a decision come back from what is read of them.
use Rattle.std.specs.Prelude.{Option, None, Some, ◌≡◌, refl, ℕ, zero, suc, ◌+◌, ◌-◌, ◌^◌, ◌≤◌, ◌<◌, Bool, true, false, ◌&&◌, List, [], ◌∷◌, length, drop, get_or, T, leb, eqb}
use Rattle.std.proofs.Common.{sym, ◌∙◌, ap, arith, drop_of_length-le, drop-cons, le-leb, eqb-true}
use Rattle.std.specs.Float.{binary64}
use Rattle.std.specs.Float.Ieee.{of_bits, to_bits, fits, nan_bits}
use Rattle.std.specs.Float.Ieee.Bits.{of_bits-to_bits, to_bits-of_bits, nan_bits_is}
use Rattle.lists.specs.Tests.{both}
use Rattle.lists.specs.Records.{tabulate}
use Rattle.arith.specs.Floats.Nan.{nan_is}
use Rattle.kinds.specs.declared.vector.PressureSource.{PressureSource}
use Rattle.kinds.specs.declared.vector.PressureSource.TheVariants as Source
use Rattle.kinds.specs.Numbers.{dominant_number, tier_number, kind_number, kind_level, kind_length}
use Rattle.kinds.specs.declared.tier.SelectionTier.{SelectionTier}
use Rattle.kinds.specs.declared.tier.SelectionTier.TheVariants as Tier
use Rattle.kinds.specs.declared.kind.CandidateKind.{CandidateKind}
use Rattle.kinds.specs.declared.kind.CandidateKind.TheVariants.{L0, LevelBatch, TrivialMove}
use Rattle.decisions.specs.declared.SchedulingDecision.{SchedulingDecision}
use Rattle.decisions.specs.Decision.{decision_width, decision_words, chosen_good, is_decision, source_from, tier_from, kind_from, decision_in, read_of, read_words}
use Rattle.decisions.specs.Decision.Good.{good, kind-small}

-- ---- from a decision to its words and back

-- what the types of the fields say of a decision in memory
pub record Held (d : SchedulingDecision) : Type 0 where
  pub l0 : T (fits binary64 d.pressure.l0)
  pub deep_debt : T (fits binary64 d.pressure.deep_debt)
  pub read : T (fits binary64 d.pressure.read)
  pub l0_relief : T (fits binary64 d.l0_relief)
  pub debt_relief : T (fits binary64 d.debt_relief)
  pub read_relief : T (fits binary64 d.read_relief)
  pub level : kind_level d.chosen ≤ 2 ^ 32 - 1

-- a case has a number up to 3, and comes back from it
source-back : (s : PressureSource) → (leb (dominant_number s) 3 ≡ true) × (source_from (dominant_number s) ≡ s)
unfolding source_from
source-back Source.None = (refl, refl)
source-back Source.L0 = (refl, refl)
source-back Source.DeepDebt = (refl, refl)
source-back Source.Read = (refl, refl)

tier-back : (t : SelectionTier) → (leb (tier_number t) 3 ≡ true) × (tier_from (tier_number t) ≡ t)
unfolding tier_from
tier-back Tier.None = (refl, refl)
tier-back Tier.L0 = (refl, refl)
tier-back Tier.FocusContinued = (refl, refl)
tier-back Tier.FocusReselected = (refl, refl)

kind-good : (k : Option CandidateKind) → kind_level k ≤ 2 ^ 32 - 1 → chosen_good (kind_number k) (kind_level k) (kind_length k) ≡ true
unfolding chosen_good
kind-good None h = refl
kind-good (Some L0) h = refl
kind-good (Some (LevelBatch l n)) h = le-leb l (2 ^ 32 - 1) h
kind-good (Some (TrivialMove l)) h = simp (le-leb l (2 ^ 32 - 1) h)

kind-back : (k : Option CandidateKind) → kind_from (kind_number k) (kind_level k) (kind_length k) ≡ k
unfolding kind_from
kind-back None = refl
kind-back (Some L0) = refl
kind-back (Some (LevelBatch l n)) = refl
kind-back (Some (TrivialMove l)) = refl

pub words-good : (d : SchedulingDecision) → kind_level d.chosen ≤ 2 ^ 32 - 1 → is_decision (decision_words d) ≡ true
unfolding is_decision decision_words
words-good d h = rw ((source-back d.dominant).0, (tier-back d.tier).0, kind-good d.chosen h)

pub read_back : (d : SchedulingDecision) → Held d → read_of (decision_words d) ≡ Some d
unfolding read_of decision_words decision_in
read_back d h =
    rw (
      words-good d h.level,
      (source-back d.dominant).1,
      (tier-back d.tier).1,
      kind-back d.chosen,
      of_bits-to_bits binary64 d.pressure.l0 h.l0,
      of_bits-to_bits binary64 d.pressure.deep_debt h.deep_debt,
      of_bits-to_bits binary64 d.pressure.read h.read,
      of_bits-to_bits binary64 d.l0_relief h.l0_relief,
      of_bits-to_bits binary64 d.debt_relief h.debt_relief,
      of_bits-to_bits binary64 d.read_relief h.read_relief,
    )

-- ---- from words to a decision and back

-- a float's word as it is written again: its own pattern, or the one of a NaN
unfoldable pub again : ℕ → ℕ
again w = to_bits binary64 (of_bits binary64 w)

pub again-same : (w : ℕ) → w < 2 ^ 64 → nan_bits binary64 w ≡ false → again w ≡ w
unfolding again
again-same w h e = to_bits-of_bits binary64 w h (rw (← nan_bits_is, e) tt)

pub again-nan : (w : ℕ) → nan_bits binary64 w ≡ true → again w ≡ 0x7ff8000000000000
unfolding again to_bits
again-nan w e = rw (nan_is (of_bits binary64 w) (sym (nan_bits_is binary64 w) ∙ e))

-- the fourteen words with the six of floats written again
unfoldable pub rewritten : List ℕ → List ℕ
rewritten ws =
    get_or ws 0 0
    ∷ again (get_or ws 1 0) ∷ again (get_or ws 2 0) ∷ again (get_or ws 3 0)
    ∷ get_or ws 4 0 ∷ get_or ws 5 0 ∷ get_or ws 6 0 ∷ get_or ws 7 0 ∷ get_or ws 8 0 ∷ get_or ws 9 0 ∷ get_or ws 10 0
    ∷ again (get_or ws 11 0) ∷ again (get_or ws 12 0) ∷ again (get_or ws 13 0) ∷ []

by-four : (P : ℕ → Type 0) → P 0 → P 1 → P 2 → P 3 → (n : ℕ) → n ≤ 3 → P n
by-four P a b c d zero h = a
by-four P a b c d (suc zero) h = b
by-four P a b c d (suc (suc zero)) h = c
by-four P a b c d (suc (suc (suc zero))) h = d
by-four P a b c d (suc (suc (suc (suc n)))) h = absurd (omega arith)

-- a kind that is good loses nothing
pub kind-again : (k l n : ℕ) → chosen_good k l n ≡ true
    → (kind_number (kind_from k l n) ≡ k) × (kind_level (kind_from k l n) ≡ l) × (kind_length (kind_from k l n) ≡ n)
unfolding chosen_good kind_from
kind-again k l n e =
    by-four
    (λ (k : ℕ). chosen_good k l n ≡ true → (kind_number (kind_from k l n) ≡ k) × (kind_level (kind_from k l n) ≡ l) × (kind_length (kind_from k l n) ≡ n))
    (λ e. (refl, zero-level e, zero-length (eqb l 0) e))
    (λ e. (refl, zero-level e, zero-length (eqb l 0) e))
    (λ e. (refl, refl, refl))
    (λ e. (refl, refl, zero-length (leb l (2 ^ 32 - 1)) e))
    k (kind-small k l n e).0 e
  where
    zero-level : (eqb l 0 && eqb n 0) ≡ true → 0 ≡ l
    zero-level e = sym (eqb-true l 0 (both _ _ e).0)

    zero-length : (b : Bool) → (b && eqb n 0) ≡ true → 0 ≡ n
    zero-length b e = sym (eqb-true n 0 (both b _ e).1)

source-again : (n : ℕ) → n ≤ 3 → dominant_number (source_from n) ≡ n
unfolding source_from
source-again = by-four (λ (n : ℕ). dominant_number (source_from n) ≡ n) refl refl refl refl

tier-again : (n : ℕ) → n ≤ 3 → tier_number (tier_from n) ≡ n
unfolding tier_from
tier-again = by-four (λ (n : ℕ). tier_number (tier_from n) ≡ n) refl refl refl refl

pub words_back : (ws : List ℕ) → is_decision ws ≡ true → read_words (read_of ws) ≡ rewritten ws
unfolding read_of decision_words decision_in rewritten again
words_back ws e =
    let g = good ws e in
    let k = kind-again (get_or ws 7 0) (get_or ws 8 0) (get_or ws 9 0) g.kind in
    rw (e, source-again (get_or ws 4 0) g.dominant, tier-again (get_or ws 5 0) g.tier, k.0, k.1, k.2)

pub none_read : (ws : List ℕ) → is_decision ws ≡ false → read_of ws ≡ None
unfolding read_of
none_read ws e = rw e

-- no word of a float is a NaN's
pub record NoNan (ws : List ℕ) : Type 0 where
  pub l0 : nan_bits binary64 (get_or ws 1 0) ≡ false
  pub deep_debt : nan_bits binary64 (get_or ws 2 0) ≡ false
  pub read : nan_bits binary64 (get_or ws 3 0) ≡ false
  pub l0_relief : nan_bits binary64 (get_or ws 11 0) ≡ false
  pub debt_relief : nan_bits binary64 (get_or ws 12 0) ≡ false
  pub read_relief : nan_bits binary64 (get_or ws 13 0) ≡ false

-- what is left from the k-th word on, word by word
dropped : (ws : List ℕ) (k n : ℕ) → length ws ≡ k + n → drop k ws ≡ tabulate (λ i. get_or ws i 0) n k
unfolding tabulate
dropped ws k zero e = drop_of_length-le ws {i = k} (omega arith)
dropped ws k (suc n) e = drop-cons ws k 0 (omega arith) ∙ ap (λ (l : List ℕ). get_or ws k 0 ∷ l) (dropped ws (suc k) n (omega arith))

pub same_back : (ws : List ℕ) → is_decision ws ≡ true → ((i : ℕ) → i < decision_width → get_or ws i 0 < 2 ^ 64) → NoNan ws → read_words (read_of ws) ≡ ws
unfolding rewritten tabulate
same_back ws e h f =
    words_back ws e
    ∙ rw (
      again-same (get_or ws 1 0) (h 1 (omega arith)) f.l0,
      again-same (get_or ws 2 0) (h 2 (omega arith)) f.deep_debt,
      again-same (get_or ws 3 0) (h 3 (omega arith)) f.read,
      again-same (get_or ws 11 0) (h 11 (omega arith)) f.l0_relief,
      again-same (get_or ws 12 0) (h 12 (omega arith)) f.debt_relief,
      again-same (get_or ws 13 0) (h 13 (omega arith)) f.read_relief,
    ) (sym (dropped ws 0 decision_width (good ws e).long))
