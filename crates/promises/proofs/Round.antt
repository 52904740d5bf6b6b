-- Every round whose vector is in range goes as specs/Round.antt says.
use Rattle.std.specs.Prelude.{Some, None}
use Prim.Native.Nat.{ℕ, zero, suc, ◌%◌, ◌<◌}
use native.Mathlib.Omega.{arith}
use mathlib.Core.Path.{◌≡◌, refl, sym, ◌∙◌, ap}
use mathlib.Core.Bool.{Bool, true, false, not, true≢false}
use mathlib.Core.List.{[], ◌∷◌, ◌++◌}
use lib.Dec.{eqb}
use lib.ListN.{length}
use borrow.Author.Tests.{eqb-true, not-false}
use Rattle.lists.specs.Any.{any_of, any_at}
use Rattle.lists.specs.Tests.{neither, both, by-test}
use Rattle.refusals.specs.Refusals.{◌gives◌, no_room}
use Rattle.refusals.specs.Checks.{fault_in}
use Rattle.kinds.specs.declared.tier.SelectionTier.TheVariants.{None as NoTier}
use Rattle.candidate_records.specs.declared.Candidate.{Candidate}
use Rattle.candidate_records.specs.Candidates.{candidate_at, no_candidate}
use Rattle.candidate_faults.specs.Candidates.{fits_kind, candidate_broken}
use Rattle.candidates.specs.Generate.{made_of, candidate_words, input_checks, short_of, generate_fault}
use Rattle.candidates.specs.Accepted.{generated-refusal, generated-count}
use Rattle.candidates.specs.ReadBack.{offers_back, words-read, candidates-length}
use Rattle.estimate_faults.specs.Faults.{estimate_fault}
use Rattle.estimates.specs.Estimate.Call.{estimate_words}
use Rattle.estimates.specs.Estimate.Accepted.{accepted, estimated-refusal}
use Rattle.choice.specs.PickAnswer.{PickAnswer}
use Rattle.choice.specs.Choice.{no_focus, answer_of}
use Rattle.choice.specs.Choice.Call.{pick_fault}
use Rattle.choice.specs.Choice.Laws.{winner-below}
use Rattle.choice.specs.Choice.Wins.{Wins, wins, nothing-wins}
use Rattle.choice.specs.Choice.Focus.{won-accepted}
use Rattle.decisions.specs.Decision.{chosen_good}
use Rattle.decisions.specs.Decision.RoundTrip.{words-good}
use Rattle.trace.specs.Laws.{decision-low, chosen_none, chosen_at, chosen-said}
use Rattle.recording.specs.Recording.Newest.{add-refused, add-accepted, newest_kept, stays-good}
use Rattle.promises.specs.Round.{RoundInput, vector, generated, asked, picked, decided, candidates, Says, Generates, Estimates, Round}
use Rattle.promises.specs.Vector.{InUnits}
use Rattle.promises.proofs.Chain.{chain}
use Rattle.promises.proofs.Estimable.{estimable}

-- a candidate's words that fit its kind say a kind
fits-good : (c : Candidate) → fits_kind c ≡ true → chosen_good c.kind c.level c.batch_len ≡ true
unfolding fits_kind chosen_good
fits-good c =
    by-test Good (eqb c.kind 1) _ _ (λ k h. rw (eqb-true c.kind 1 k) h)
    (λ _. by-test Good (eqb c.kind 2) _ _ (λ k h. rw (eqb-true c.kind 2 k) (both _ _ h).0)
    (λ _. by-test Good (eqb c.kind 3) _ _ (λ k h. rw (eqb-true c.kind 3 k) h) (λ _ h. absurd (true≢false (sym h)))))
  where
    Good : Bool → Type 0
    Good b = b ≡ true → chosen_good c.kind c.level c.batch_len ≡ true

module _ (r : RoundInput) where
  module _ (g : Generates r) where
    generation_fault : generate_fault r.lent r.candidate_room r.number_room ≡ 0
    generation_fault = sym (generated-refusal r.lent r.candidate_room r.number_room) ∙ g

    counts : (generated r).candidates ≡ length (made_of r.lent)
    counts = rw (generated-count r.lent r.candidate_room r.number_room generation_fault)

    reads : length (candidates r) ≡ length (made_of r.lent)
    reads = rw (words-read 0 (made_of r.lent)) (candidates-length 0 (made_of r.lent))

  module _ (v : InUnits (vector r)) (e : Estimates r) where
    estimation_fault : estimate_fault (asked r) r.estimate_room ≡ 0
    estimation_fault = sym (estimated-refusal (asked r) r.estimate_room) ∙ e.1

    selection_fault : pick_fault (vector r) (candidate_words r.lent) (estimate_words (asked r)) ≡ 0
    selection_fault = chain (asked r) r.estimate_room estimation_fault (vector r) (rw (v.l0, v.deep_debt, v.read))

    won : 0 < (generated r).candidates → Wins r.state.focus (candidates r) (picked r)
    won h = wins (vector r) r.state.focus _ _ selection_fault (omega (arith, counts e.0, reads e.0))

    idle : (generated r).candidates ≡ 0 → picked r ≡ answer_of None no_focus NoTier
    idle h = nothing-wins (vector r) r.state.focus _ _ selection_fault (omega (arith, counts e.0, reads e.0))

    accepts : (n : ℕ) → (generated r).candidates ≡ n → (picked r).refusal ≡ 0
    accepts zero h = ap (λ (p : PickAnswer). p.refusal) (idle h)
    accepts (suc n) h = won-accepted (won (omega arith)).won

    says : (k : ℕ) → (picked r).winner ≡ Some k → Says (candidate_at (candidates r) k) (decided r).chosen
    says k w =
        let c : Candidate = candidate_at (candidates r) k in
        let kinds : any_of candidate_broken (candidates r) ≡ false = (neither (not (eqb (length (candidate_words r.lent) % 6) 0)) _ (accepted (asked r) r.estimate_room estimation_fault).kinds).1 in
        let listed : k < length (candidates r) = winner-below (vector r) r.state.focus _ _ k w in
        let fits : fits_kind c ≡ true = not-false (fits_kind c) (any_at candidate_broken no_candidate (candidates r) k kinds listed) in
        let said = chosen-said c.kind c.level c.batch_len (fits-good c fits) in
        rw (chosen_at (vector r) (picked r) _ _ k w) (record { kind = said.0; level = said.1; batch_len = said.2 })

pub round : (r : RoundInput) → InUnits (vector r) → Round r
unfolding generate_fault input_checks
round r v =
    record {
      generation = rw (generated-refusal r.lent r.candidate_room r.number_room) (fault_in (input_checks r.lent.tables r.lent.keys r.lent.over ++ (short_of r.lent r.candidate_room r.number_room gives no_room ∷ [])));
      offered = λ g. offers_back r.lent;
      counted = λ g. counts r g ∙ sym (reads r g);
      estimation = λ g. estimated-refusal (asked r) r.estimate_room ∙ estimable r.lent r.candidate_room r.number_room (generation_fault r g) r.next r.estimate_room ∙ rw (counts r g);
      selection = λ e. accepts r v e _ refl;
      winner = λ e. won r v e;
      no-winner = λ e. idle r v e;
      chosen = λ e. says r v e;
      none-chosen = chosen_none (vector r) (picked r) _ _;
      decision = words-good (decided r) (decision-low (vector r) (picked r) _ _);
      refused = add-refused r.log (length r.words);
      accepted = add-accepted r.log (length r.words);
      logged = newest_kept r.log r.words (decided r);
      good-again = stays-good r.log r.words (decided r);
    }
