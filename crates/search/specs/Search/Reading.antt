-- The choices of a call are those that the code reads.
use Rattle.std.specs.Prelude.{◌≡◌, Bool, length, get_or, drop, replicate, min, eqb, Float, Option, Some, None}
use Rattle.std.proofs.Math.Path.{refl, ap}
use Rattle.std.proofs.Common.{sym, ◌∙◌, add-one, zero-add, suc-add, add-suc, arith, drop_of_length-le, drop-cons, eq-eqb, ne_eqb, ext_get_or}
use Rattle.std.proofs.Math.Bool.{true, false, cond}
use mathlib.Core.List.{List, [], ◌∷◌}
use Prim.Native.Nat.{ℕ, zero, suc, ◌+◌, ◌≤◌, ◌<◌}
use Rattle.std.proofs.Math.Decide.{dec_le}
use Rattle.std.proofs.Math.Nat.{add-zero, lt_of_not-le}
use Rattle.std.proofs.iter.Yields.{nat_range_steps}
use Rattle.std.proofs.lemmas.Iterator.{YieldsList-from_range}
use Rattle.std.proofs.lemmas.Iterator.Search.{find_from_yields_List}
use Rattle.std.proofs.lemmas.List.{length-replicate}
use Rattle.std.proofs.Math.ListN.{get_or-append}
use Rattle.std.proofs.lemmas.List.Edits.{sets}
use Rattle.std.proofs.Math.Seq.{length-sets}
use Rattle.std.specs.Float.{nan}
use Rattle.std.specs.Bool.{⊤}
use Rattle.std.specs.Fn.{CalledAt}
use Rattle.std.specs.Iterator.{YieldsThen}
use Rattle.std.specs.List.{FoldsTo, find, range_with_len}
use Rattle.std.specs.Option.{MatchOption, option_map}
use Rattle.std.specs.declared.ops.Range.{Range}
use denote.Param.Members.{Mut}
use denote.Ref.{Bor}
use Rattle.faults.specs.Limits.{max_candidates}
use Rattle.lists.specs.Filter.{filter_of}
use Rattle.lists.specs.Records.{tabulate-length, tabulate-at}
use Rattle.lists.specs.Writes.{sets_front, sets_past}
use Rattle.arith.specs.Floats.{f0}
use Rattle.kinds.specs.declared.vector.PressureVector.{PressureVector}
use Rattle.candidate_records.specs.declared.Candidate.{Candidate}
use Rattle.candidate_records.specs.declared.CandidateEstimate.{CandidateEstimate}
use Rattle.candidate_records.specs.Candidates.{candidates_of, estimates_of, candidate_at, estimate_at, no_candidate, no_estimate}
use Rattle.scores.specs.Score.{score_of}
use Rattle.search.specs.Choices.{Choice, choices_from, is_l0_choice, winner_of}
use Rattle.search.specs.Search.{scores_of, score_array, read_choice, read_choices, first_l0}

abbrev pub no_choice : Choice
no_choice = record { place = 0; kind = 0; level = 0; batch_len = 0; relief = f0; score = f0 }

abbrev pub choice_at : List Choice → ℕ → Choice
choice_at all k = get_or all k no_choice

abbrev made : ℕ → Candidate → CandidateEstimate → Float → Choice
made i c e s = record { place = i; kind = c.kind; level = c.level; batch_len = c.batch_len; relief = e.debt_relief; score = s }

-- ---- the first L0

module _ (cs : List Candidate) (i : ℕ) where
  pub l0-here : i < length cs → (candidate_at cs i).kind ≡ 1 → first_l0 i (drop i cs) ≡ Some i
  unfolding first_l0
  l0-here h e = rw (drop-cons cs i no_candidate h, eq-eqb _ _ e)

  pub l0-next : i < length cs → ((candidate_at cs i).kind ≡ 1 → ⊥) → first_l0 i (drop i cs) ≡ first_l0 (i + 1) (drop (i + 1) cs)
  unfolding first_l0
  l0-next h e = rw (drop-cons cs i no_candidate h, ne_eqb _ _ e, add-one)

  pub l0-end : length cs ≤ i → first_l0 i (drop i cs) ≡ None
  unfolding first_l0
  l0-end h = rw (drop_of_length-le cs h)

module _ (cs : List Candidate) where
  l0_from : (a n : ℕ) → a + n ≡ length cs → find (λ k. eqb (candidate_at cs k).kind 1) (range_with_len a n) ≡ first_l0 a (drop a cs)
  unfolding first_l0
  l0_from a zero h = sym (l0-end cs a (omega arith))
  l0_from a (suc n) h = rw (drop-cons cs a no_candidate (omega arith), l0_from (a + 1) n (omega arith), add-one)

  -- the places' own search, which tests each for an L0
  pub l0_places : {F : Type 0} {g : Mut F (Bor ℕ × Unit {0}) Bool} (u : Range ℕ) (f : F) (r : Option ℕ)
      → (ys : List ℕ) × (j : F) × YieldsThen nat_range_steps (record { start = 0; end = length cs }) ys r u × FoldsTo (λ q x t. CalledAt g q x false t) f ys j × MatchOption r ⊤ (λ x. (h : F) × CalledAt g j x true h)
      → ((x : ℕ) (b : Bool) (q : F) → CalledAt g f x b q → (q ≡ f) × (b ≡ eqb (candidate_at cs x).kind 1)) → r ≡ first_l0 0 cs
  l0_places u f r ran k =
      same r ∙ find_from_yields_List (λ i. eqb (candidate_at cs i).kind 1) u f r ran (YieldsList-from_range 0 (length cs) (length cs) refl (omega arith)) k ∙ l0_from 0 (length cs) (omega arith)
    where
      same : (r : Option ℕ) → r ≡ option_map (λ x. x) r
      same None = refl
      same (Some x) = refl

module _ (v : PressureVector) where
  pub l0_is : (i : ℕ) (cs : List Candidate) (es : List CandidateEstimate) → length cs ≡ length es → winner_of (filter_of is_l0_choice (choices_from v i cs es)) ≡ first_l0 i cs
  unfolding filter_of choices_from first_l0
  l0_is i [] es h = refl
  l0_is i (c ∷ cs) [] h = absurd (omega arith)
  l0_is i (c ∷ cs) (e ∷ es) h = go (eqb c.kind 1) (l0_is (suc i) cs es (omega arith))
    where
      go : (t : Bool) → winner_of (filter_of is_l0_choice (choices_from v (suc i) cs es)) ≡ first_l0 (suc i) cs → winner_of (cond t (made i c e (score_of v e) ∷ filter_of is_l0_choice (choices_from v (suc i) cs es)) (filter_of is_l0_choice (choices_from v (suc i) cs es))) ≡ cond t (Some i) (first_l0 (suc i) cs)
      go true k = refl
      go false k = k

  -- ---- the choices of a call

  pub choices_length : (i : ℕ) (cs : List Candidate) (es : List CandidateEstimate) → length cs ≡ length es → length (choices_from v i cs es) ≡ length cs
  unfolding choices_from
  choices_length i [] es h = refl
  choices_length i (c ∷ cs) [] h = absurd (omega arith)
  choices_length i (c ∷ cs) (e ∷ es) h = ap suc (choices_length (suc i) cs es (omega arith))

  pub choices_at : (i : ℕ) (cs : List Candidate) (es : List CandidateEstimate) (k : ℕ) → length cs ≡ length es → k < length cs → choice_at (choices_from v i cs es) k ≡ made (i + k) (candidate_at cs k) (estimate_at es k) (score_of v (estimate_at es k))
  unfolding choices_from
  choices_at i [] es k h l = absurd (omega arith)
  choices_at i (c ∷ cs) [] k h l = absurd (omega arith)
  choices_at i (c ∷ cs) (e ∷ es) zero h l = rw add-zero
  choices_at i (c ∷ cs) (e ∷ es) (suc k) h l = choices_at (suc i) cs es k (omega arith) (omega arith) ∙ rw (suc-add, add-suc)

-- ---- the scores

module _ (v : PressureVector) where
  pub scores_more : (es : List CandidateEstimate) (i : ℕ) → i < length es → scores_of v (drop i es) ≡ score_of v (estimate_at es i) ∷ scores_of v (drop (i + 1) es)
  unfolding scores_of
  scores_more es i h = rw (drop-cons es i no_estimate h, add-one)

  pub scores_end : (es : List CandidateEstimate) (i : ℕ) → length es ≤ i → scores_of v (drop i es) ≡ []
  unfolding scores_of
  scores_end es i h = rw (drop_of_length-le es h)

  -- where the array ends nothing is left to write
  pub scores_full : (es : List CandidateEstimate) (i : ℕ) (ss : List Float) → max_candidates ≤ i → sets ss i (scores_of v (drop i es)) ≡ score_array v es → ss ≡ score_array v es
  scores_full es i ss h e =
      let rest = scores_of v (drop i es) in
      let n : length ss ≡ max_candidates = sym (length-sets ss i rest) ∙ ap length e ∙ length-sets (replicate max_candidates f0) 0 (scores_of v es) ∙ length-replicate max_candidates f0 in
      sym (sets_past rest ss i (omega arith)) ∙ e

  -- nor where the estimates end
  pub scores_done : (es : List CandidateEstimate) (i : ℕ) (ss : List Float) → min (length es) max_candidates ≤ i → sets ss i (scores_of v (drop i es)) ≡ score_array v es → ss ≡ score_array v es
  scores_done es i ss h e = elim (dec_le (length es) i) [
    | yes l ↦ rw (scores_end es i l) at e
    | no l ↦ scores_full es i ss (omega (arith, lt_of_not-le l)) e
  ]

  scores_length : (es : List CandidateEstimate) → length (scores_of v es) ≡ length es
  unfolding scores_of
  scores_length [] = refl
  scores_length (e ∷ es) = ap suc (scores_length es)

  scores_at : (es : List CandidateEstimate) (k : ℕ) → k < length es → get_or (scores_of v es) k nan ≡ score_of v (estimate_at es k)
  unfolding scores_of
  scores_at [] k h = absurd (omega arith)
  scores_at (e ∷ es) zero h = refl
  scores_at (e ∷ es) (suc k) h = scores_at es k (omega arith)

  array_at : (es : List CandidateEstimate) (k : ℕ) → length es ≤ max_candidates → k < length es → get_or (score_array v es) k nan ≡ score_of v (estimate_at es k)
  array_at es k h l =
      let n = scores_length es in
      let room : length (scores_of v es) ≤ length (replicate max_candidates f0) = omega (arith, length-replicate max_candidates f0) in
      rw (sets_front (scores_of v es) (replicate max_candidates f0) room, get_or-append (scores_of v es) (drop (length (scores_of v es)) (replicate max_candidates f0)) nan k (omega arith)) (scores_at es k l)

  pub read_is : (cw ew : List ℕ) → length (candidates_of cw) ≤ max_candidates → length (candidates_of cw) ≡ length (estimates_of ew) → read_choices cw ew (score_array v (estimates_of ew)) ≡ choices_from v 0 (candidates_of cw) (estimates_of ew)
  read_is cw ew few paired =
      let cs = candidates_of cw in
      let es = estimates_of ew in
      let read = read_choice cw ew (score_array v es) in
      let n = tabulate-length read (length cs) 0 in
      ext_get_or no_choice (read_choices cw ew (score_array v es)) (choices_from v 0 cs es) (n ∙ sym (choices_length v 0 cs es paired))
      (λ k h.
      let l : k < length cs = omega arith in
      tabulate-at read (length cs) 0 k no_choice l ∙ rw (zero-add, array_at es k (omega (arith, few, paired)) (omega (arith, paired))) (sym (choices_at v 0 cs es k paired l ∙ rw zero-add)))
