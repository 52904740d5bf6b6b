-- Whatever is added one by one to an empty log: nothing is refused, and the last 4,096 are kept, in order, with their sequences.
use Rattle.std.specs.Prelude.{◌≡◌, Bool, true, false, cond, List, [], ◌∷◌, ◌++◌, drop, replicate, ltb}
use Rattle.std.proofs.Math.Path.{refl}
use Rattle.std.proofs.Common.{sym, ◌∙◌, ap, ap₂, add-one, append_assoc, append-nil, length-append, ltb-true, ltb-false}
use Prim.Native.Nat.{ℕ, suc, ◌+◌, ◌-◌, ◌*◌, ◌^◌, ◌≤◌, ◌<◌, min}
use native.Mathlib.Omega.{arith}
use Rattle.std.proofs.Math.ListN.{length}
use Rattle.std.proofs.lemmas.List.Edits.{sets}
use Rattle.std.proofs.Math.Seq.{length-sets, drop-append-le, drop_at, drop-cons, append_snoc}
use Rattle.refusals.specs.Refusals.{none}
use Rattle.decisions.specs.declared.SchedulingDecision.{SchedulingDecision}
use Rattle.decisions.specs.Decision.{decision_width, decision_words}
use Rattle.decision_log.specs.Log.{max_kept, log_words, log_bad, kept_place, kept_from, kept_words}
use Rattle.next_log.specs.Next.{next_place, next_sequence}
use Rattle.recording.specs.Recording.{numbered, record_fault, recorded_of, recorded_words}
use Rattle.decision_log.specs.Log.Sound.{sound-good}
use Rattle.recording.specs.Recording.Kept.{kept-grown, kept_replaced}
use Rattle.recording.specs.Recording.Newest.{words-length}
use Rattle.recording.specs.Recording.Run.{Logged, started, added, run, refusals, numbered_from, last_of, joined}

-- ---- the words of decisions in a row

joined_snoc : (ds : List SchedulingDecision) (d : SchedulingDecision) → joined (ds ++ (d ∷ [])) ≡ joined ds ++ decision_words d
unfolding joined
joined_snoc [] d = append-nil (decision_words d)
joined_snoc (a ∷ ds) d = ap (λ (l : List ℕ). decision_words a ++ l) (joined_snoc ds d) ∙ sym (append_assoc (decision_words a) (joined ds) (decision_words d))

module _ (ds : List SchedulingDecision) (d : SchedulingDecision) where
  length_snoc : length (ds ++ (d ∷ [])) ≡ suc (length ds)
  length_snoc = length-append ds (d ∷ []) ∙ add-one (length ds)

  last-grown : length ds < max_kept → joined (last_of max_kept (ds ++ (d ∷ []))) ≡ joined (last_of max_kept ds) ++ decision_words d
  last-grown h =
      let a : length (ds ++ (d ∷ [])) - max_kept ≡ 0 = omega (arith, length_snoc) in
      let b : length ds - max_kept ≡ 0 = omega arith in
      rw (a, b) (joined_snoc ds d)

  last_replaced : max_kept ≤ length ds → joined (last_of max_kept (ds ++ (d ∷ []))) ≡ drop decision_width (joined (last_of max_kept ds)) ++ decision_words d
  unfolding joined
  last_replaced h =
      let m = length ds - max_kept in
      let a : length (ds ++ (d ∷ [])) - max_kept ≡ suc m = omega (arith, length_snoc) in
      let b : suc m ≤ length ds = omega arith in
      rw (a, drop-append-le (suc m) ds (d ∷ []) b, joined_snoc, drop-cons ds m d b, drop_at _ _ decision_width (words-length _))

-- ---- one addition

-- what the additions so far leave
pub record Holds (s : Logged) (all : List SchedulingDecision) : Type 0 where
  pub long : length s.words ≡ log_words
  pub first : s.log.first < max_kept
  pub count : s.log.count ≡ min (length all) max_kept
  pub sequence : s.log.sequence ≡ min (length all) (2 ^ 64 - 1)
  pub kept : kept_words s.log s.words ≡ joined (last_of max_kept all)

module _ (s : Logged) (all : List SchedulingDecision) (h : Holds s all) where
  sound : log_bad s.log (length s.words) ≡ false
  sound = sound-good s.log (length s.words) (record { long = h.long; first = h.first; count = omega arith })

  accepted : record_fault s.log (length s.words) ≡ none
  unfolding record_fault
  accepted = rw sound

  -- t says whether there is a free place
  next-holds : (t : Bool) → ltb s.log.count max_kept ≡ t → (x : SchedulingDecision) (n : ℕ) → n ≡ min (suc (length all)) (2 ^ 64 - 1)
      → Holds
      (record {
        log = record { first = cond t s.log.first (kept_place s.log 1); count = cond t (s.log.count + 1) max_kept; sequence = n };
        words = sets s.words (decision_width * cond t (kept_place s.log s.log.count) s.log.first) (decision_words x);
      })
      (all ++ (x ∷ []))
  next-holds true e x n m =
      let c = ltb-true s.log.count max_kept e in
      let l : length all < max_kept = omega arith in
      record {
        long = length-sets s.words _ (decision_words x) ∙ h.long;
        first = h.first;
        count = omega (arith, length_snoc all x);
        sequence = rw (length_snoc all x) m;
        kept =
            kept-grown s.log _ s.words (decision_words x) h.long (words-length x) s.log.count refl c
            ∙ ap (λ (l : List ℕ). l ++ decision_words x) h.kept
            ∙ sym (last-grown all x l);
      }
  next-holds false e x n m =
      let c = ltb-false s.log.count max_kept e in
      let f : s.log.count ≡ max_kept = omega arith in
      let l : max_kept ≤ length all = omega arith in
      record {
        long = length-sets s.words _ (decision_words x) ∙ h.long;
        first = omega arith;
        count = omega (arith, length_snoc all x);
        sequence = rw (length_snoc all x) m;
        kept =
            kept_replaced s.log _ s.words (decision_words x) h.long (words-length x) refl h.first
            ∙ ap (λ (l : List ℕ). drop decision_width l ++ decision_words x) (ap (kept_from s.log s.words 0) (sym f) ∙ h.kept)
            ∙ sym (last_replaced all x l);
      }

  step : (d : SchedulingDecision) → Holds (added s d) (all ++ (numbered d (min (suc (length all)) (2 ^ 64 - 1)) ∷ []))
  unfolding recorded_of recorded_words next_place
  step d =
      let n : next_sequence s.log ≡ min (suc (length all)) (2 ^ 64 - 1) = omega arith in
      rw (accepted, n) (next-holds (ltb s.log.count max_kept) refl (numbered d (min (suc (length all)) (2 ^ 64 - 1))) _ refl)

-- ---- any number of them

pub run_holds : (s : Logged) (all ds : List SchedulingDecision) → Holds s all → Holds (run s ds) (all ++ numbered_from (suc (length all)) ds)
unfolding run numbered_from
run_holds s all [] h = rw append-nil h
run_holds s all (d ∷ ds) h =
    let x = numbered d (min (suc (length all)) (2 ^ 64 - 1)) in
    rw (length_snoc all x, append_snoc all x) at (run_holds (added s d) (all ++ (x ∷ [])) ds (step s all h d))

never-refused : (s : Logged) (all ds : List SchedulingDecision) → Holds s all → refusals s ds ≡ replicate (length ds) none
unfolding refusals recorded_of
never-refused s all [] h = refl
never-refused s all (d ∷ ds) h =
    ap₂ (λ (a : ℕ) (l : List ℕ). a ∷ l) (accepted s all h) (never-refused (added s d) _ ds (step s all h d))

started-holds : (ws : List ℕ) → length ws ≡ log_words → Holds (started ws) []
unfolding kept_from joined
started-holds ws e = record { long = e; first = omega arith; count = refl; sequence = refl; kept = refl }

length-numbered : (i : ℕ) (ds : List SchedulingDecision) → length (numbered_from i ds) ≡ length ds
unfolding numbered_from
length-numbered i [] = refl
length-numbered i (d ∷ ds) = ap suc (length-numbered (suc i) ds)

module _ (ws : List ℕ) (e : length ws ≡ log_words) (ds : List SchedulingDecision) where
  pub none-refused : refusals (started ws) ds ≡ replicate (length ds) none
  none-refused = never-refused (started ws) [] ds (started-holds ws e)

  outcome : Holds (run (started ws) ds) (numbered_from 1 ds)
  outcome = run_holds (started ws) [] ds (started-holds ws e)

  pub last-good : log_bad (run (started ws) ds).log (length (run (started ws) ds).words) ≡ false
  last-good = sound (run (started ws) ds) (numbered_from 1 ds) outcome

  pub last-count : (run (started ws) ds).log.count ≡ min (length ds) max_kept
  last-count = outcome.count ∙ ap (λ (n : ℕ). min n max_kept) (length-numbered 1 ds)

  pub last-kept : kept_words (run (started ws) ds).log (run (started ws) ds).words ≡ joined (last_of max_kept (numbered_from 1 ds))
  last-kept = outcome.kept
