-- What an accepted call of `estimate_candidates` may rely on.
use Rattle.std.specs.Prelude.{◌≡◌, refl, Bool, false, not, ◌||◌, List, ◌++◌, ℕ, ◌+◌, ◌*◌, ◌%◌, ◌^◌, ◌≤◌, ◌<◌, length, drop, eqb}
use Rattle.std.proofs.Common.{sym, ◌∙◌, arith}
use Rattle.std.proofs.lemmas.List.Edits.{sets}
use borrow.Author.Tests.{ltb-false, eqb-true, eq-eqb, ne_eqb}
use Rattle.lists.specs.Any.{any_of, any-no, get_or_in}
use Rattle.faults.specs.Tables.{table_broken, too_many_tables, broken_tables, too_many_entries, broken_entries}
use Rattle.records.specs.declared.tables.Table.{Table}
use Rattle.records.specs.Tables.{tables_of, entries_of}
use Rattle.lists.specs.Writes.{sets_front}
use Rattle.candidate_records.specs.declared.Candidate.{Candidate}
use Rattle.candidate_records.specs.Candidates.{candidates_of, candidate_at, no_candidate}
use Rattle.candidate_faults.specs.Candidates.{too_many_candidates, too_many_numbers, numbers_out, broken_candidates}
use Rattle.estimates.specs.Estimate.{estimate_of, nine_words}
use Rattle.estimate_faults.specs.Faults.{EstimateInput, estimate_checks, estimate_fault}
use Rattle.estimates.specs.Estimate.Call.{Estimated, estimate_words, estimated_of, estimates_out}
use Rattle.lists.specs.Flat.{flat_length}
use Rattle.refusals.specs.Refusals.{none, too_many, bad_record, duplicate_number, too_large, no_room}
use Rattle.refusals.specs.Checks.{check_for, clear_for}
use Rattle.number_order.specs.Numbers.{repeats}
use Rattle.estimates.specs.Estimate.Members.{Small, small-tables}
use Rattle.lists.specs.Tests.{neither, by-test}

-- the tables are few and small, and the candidate's numbers are few and in their place among n
pub record Sound (ts : List Table) (n : ℕ) (c : Candidate) : Type 0 where
  pub few : length ts ≤ 1024
  pub small : Small ts
  pub short : c.count ≤ 1024
  pub inside : c.start + c.count ≤ n

pub record Accepted (q : EstimateInput) (room : ℕ) : Type 0 where
  pub sound : (i : ℕ) → i < length (candidates_of q.candidates) → Sound (tables_of q.tables) (length q.numbers) (candidate_at (candidates_of q.candidates) i)
  pub few : too_many_candidates q.candidates ≡ false
  pub kinds : broken_candidates q.candidates ≡ false
  pub different : repeats (tables_of q.tables) ≡ false
  pub low : q.next ≤ 2 ^ 53
  pub fits : 9 * length (candidates_of q.candidates) ≤ room

no_one : (a b c d : Bool) → a || (b || (c || d)) ≡ false → (a ≡ false) × (b ≡ false) × (c ≡ false) × (d ≡ false)
no_one a b c d e =
    let f = neither a (b || (c || d)) e in
    let g = neither b (c || d) f.1 in
    let h = neither c d g.1 in
    (f.0, g.0, h.0, h.1)

pub accepted : (q : EstimateInput) (room : ℕ) → estimate_fault q room ≡ 0 → Accepted q room
unfolding estimate_fault broken_tables
accepted q room e =
    let cs = candidates_of q.candidates in
    let ts = tables_of q.tables in
    let n = length q.numbers in
    let clear : (m : ℕ) → check_for m (estimate_checks q room) ≡ false = λ m. clear_for m (estimate_checks q room) tt e in
    let many = no_one (too_many_tables q.tables) (too_many_entries q.over) (too_many_candidates q.candidates) (any_of too_many_numbers cs) (clear too_many) in
    let broken = no_one (broken_tables q.tables) (broken_entries q.over) (broken_candidates q.candidates) (any_of (numbers_out n) cs) (clear bad_record) in
    record {
      sound = λ i h.
          let here = get_or_in cs i no_candidate h in
          record {
            few = ltb-false 1024 (length ts) many.0;
            small = small-tables ts (neither (not (eqb (length q.tables % 7) 0)) (any_of table_broken ts) broken.0).1;
            short = ltb-false 1024 (candidate_at cs i).count (any-no too_many_numbers cs many.3 (candidate_at cs i) here);
            inside = ltb-false n ((candidate_at cs i).start + (candidate_at cs i).count) (any-no (numbers_out n) cs broken.3 (candidate_at cs i) here);
          };
      few = many.2;
      kinds = broken.2;
      different = clear duplicate_number;
      low = ltb-false (2 ^ 53) q.next (clear too_large);
      fits = ltb-false room (9 * length cs) (clear no_room);
    }

-- the answer's refusal is the call's fault
pub estimated-refusal : (q : EstimateInput) (room : ℕ) → (estimated_of q room).refusal ≡ estimate_fault q room
unfolding estimated_of
estimated-refusal q room =
    by-test (λ (r : Estimated). r.refusal ≡ estimate_fault q room) (eqb (estimate_fault q room) none) _ _ (λ e. sym (eqb-true _ none e)) (λ e. refl)

pub words_long : (q : EstimateInput) → length (estimate_words q) ≡ 9 * length (candidates_of q.candidates)
words_long q = flat_length (λ c. nine_words (estimate_of (tables_of q.tables) q.next (entries_of q.over) q.numbers c)) 9 (λ c. refl) (candidates_of q.candidates)

-- the words have room, so they stand at the front and the rest is as it was
pub all-written : (q : EstimateInput) (old : List ℕ) → Accepted q (length old) → sets old 0 (estimate_words q) ≡ estimate_words q ++ drop (length (estimate_words q)) old
all-written q old a = sets_front (estimate_words q) old (omega (arith, a.fits, words_long q))

-- ---- the answer and the buffer

module _ (q : EstimateInput) (old : List ℕ) {fault : ℕ} (e : fault ≡ estimate_fault q (length old)) where
  pub when_refused : (fault ≡ none → ⊥) → (record { refusal = fault; estimates = 0 } ≡ estimated_of q (length old)) × (old ≡ estimates_out q old)
  unfolding estimated_of
  when_refused n = let t = ne_eqb fault none n in (rw (← e, t), rw (← e, t))

  pub when_accepted : fault ≡ none → {count : ℕ} {new : List ℕ} → (count ≡ length (candidates_of q.candidates)) × (new ≡ sets old 0 (estimate_words q))
      → (record { refusal = none; estimates = count } ≡ estimated_of q (length old)) × (new ≡ estimates_out q old)
  unfolding estimated_of
  when_accepted z w =
      let t = eq-eqb fault none z in
      (rw (← e, t, w.0), rw (← e, t) (w.1 ∙ all-written q old (accepted q (length old) (sym e ∙ z))))
