-- What an accepted generation writes, estimation takes: with the same tables and over-budget entries it refuses for the next number, or else for its room, and for nothing else.
use mathlib.Core.Path.{◌≡◌, refl, ◌∙◌}
use mathlib.Core.Bool.{true, false}
use mathlib.Core.List.{List, [], ◌∷◌, Memᴰ}
use Prim.Native.Nat.{ℕ, ◌+◌, ◌*◌, ◌%◌, ◌^◌, ◌≤◌}
use native.Mathlib.Omega.{arith}
use lib.Dec.{ltb}
use lib.ListN.{length}
use borrow.Author.Tests.{le-ltb, le-leb, eq-eqb}
use Rattle.lists.specs.Any.{any_of, any_none}
use Rattle.refusals.specs.Refusals.{◌gives◌, first_fault, too_large, no_room}
use Rattle.candidate_records.specs.declared.Candidate.{Candidate}
use Rattle.faults.specs.Limits.{max_candidates, max_numbers, max_batch, max_level}
use Rattle.candidate_faults.specs.Candidates.{too_many_numbers, fits_kind, candidate_broken, numbers_out}
use Rattle.l0_words.specs.Words.{Offer, numbers_in}
use Rattle.candidates.specs.Generate.{GenerateInput, made_of, candidate_words, generate_fault}
use Rattle.candidates.specs.Accepted.{accepted}
use Rattle.candidate_words.specs.Bounds.{words-length}
use Rattle.estimate_faults.specs.Faults.{estimate_fault}
use Rattle.promises.specs.Rows.{estimating}
use Rattle.candidates.specs.ReadBack.{candidate_of, candidates_from, words-read, candidates-length, candidate_in}
use Rattle.candidate_words.specs.Offered.{Proper, l0, batch, move, EachOffered}
use Rattle.candidates.specs.Offered.{made-offered, made-few}

-- what is offered fits its kind
proper-fits : {k l n : ℕ} → Proper k l n → (c : Candidate) → c.kind ≡ k → c.level ≡ l → c.batch_len ≡ n → fits_kind c ≡ true
unfolding fits_kind
proper-fits l0 c e f g = rw (e, f, g)
proper-fits (batch {level} {n} h s t) c e f g = rw (e, f, g, le-leb level max_level (omega arith), le-leb 1 n s, le-leb n max_batch t)
proper-fits (move {level} h) c e f g = rw (e, f, g, le-leb level max_level (omega arith))

-- the candidates that are read are free of every fault
module _ (os : List Offer) (each : EachOffered os) where
  abbrev cs : List Candidate
  cs = candidates_from 0 os

  sound : (c : Candidate) → Memᴰ c cs → (fits_kind c ≡ true) × (c.count ≤ max_numbers) × (c.start + c.count ≤ length (numbers_in os))
  sound c m =
      let r = candidate_in os 0 c m in
      let o = each r.0 r.2 in
      rw r.3 (proper-fits o.proper (candidate_of r.1 r.0) refl refl refl, o.few, omega (arith, r.4))

  kinds-fit : any_of candidate_broken cs ≡ false
  kinds-fit = any_none candidate_broken cs (λ c m. rw (sound c m).0)

  few-numbers : any_of too_many_numbers cs ≡ false
  few-numbers = any_none too_many_numbers cs (λ c m. le-ltb max_numbers c.count (sound c m).1)

  places_in : any_of (numbers_out (length (numbers_in os))) cs ≡ false
  places_in = any_none (numbers_out (length (numbers_in os))) cs (λ c m. le-ltb (length (numbers_in os)) (c.start + c.count) (sound c m).2)

module _ (q : GenerateInput) (room₁ room₂ : ℕ) (z : generate_fault q room₁ room₂ ≡ 0) where
  pub estimable : (next room : ℕ) → estimate_fault (estimating q next) room ≡ first_fault (ltb (2 ^ 53) next gives too_large ∷ ltb room (9 * length (made_of q)) gives no_room ∷ [])
  unfolding estimate_fault
  estimable next room =
      let a = accepted q room₁ room₂ z in
      let each = made-offered q room₁ room₂ z in
      rw (
        words-read 0 (made_of q),
        candidates-length 0 (made_of q),
        a.few-tables,
        a.few-entries,
        le-ltb max_candidates (length (made_of q)) (made-few q room₁ room₂ z),
        few-numbers (made_of q) each,
        a.tables,
        a.entries,
        eq-eqb (length (candidate_words q) % 6) 0 (omega (arith, words-length 0 (made_of q))),
        kinds-fit (made_of q) each,
        places_in (made_of q) each,
        a.different,
        a.levels,
      )

  -- so it refuses nothing where the next number is in range and the room long enough
  pub estimable-room : (next room : ℕ) → next ≤ 2 ^ 53 → 9 * length (made_of q) ≤ room → estimate_fault (estimating q next) room ≡ 0
  estimable-room next room h k = estimable next room ∙ rw (le-ltb (2 ^ 53) next h, le-ltb room (9 * length (made_of q)) k)

  -- nine words for each of 145 always are
  pub estimable_always : (next room : ℕ) → next ≤ 2 ^ 53 → 9 * max_candidates ≤ room → estimate_fault (estimating q next) room ≡ 0
  estimable_always next room h k = estimable-room next room h (omega (arith, made-few q room₁ room₂ z))
