-- What generation writes is read back: each candidate's words say an offer, and its place in the number list holds that offer's numbers.
use Rattle.std.specs.Prelude.{◌≡◌, refl, ℕ, ◌+◌, ◌≤◌, length, take, drop}
use Rattle.std.proofs.Common.{◌∙◌, ap, ⊎_elim, arith, lit<, length-append, take_at, drop_at}
use mathlib.Core.List.Memᴰ
use mathlib.Core.List.{List, [], ◌∷◌, ◌++◌, map, append_assoc, Memᴰ}
use Rattle.candidate_records.specs.declared.Candidate.{Candidate}
use Rattle.candidate_records.specs.Candidates.{candidate_by, candidates_of}
use Rattle.l0_words.specs.Words.{Offer, six_words, words_from, numbers_in}
use Rattle.candidates.specs.Generate.{GenerateInput, made_of, candidate_words, number_words}
use Rattle.records.specs.Joined.{records_none, records_cons}

-- the candidate that six words say
abbrev pub candidate_of : ℕ → Offer → Candidate
candidate_of start o =
    record { kind = o.kind; level = o.level; batch_len = o.batch_len; output_level = o.output; start = start; count = length o.numbers }

unfoldable pub candidates_from : ℕ → List Offer → List Candidate
candidates_from start [] = []
candidates_from start (o ∷ os) = candidate_of start o ∷ candidates_from (start + length o.numbers) os

pub words-read : (start : ℕ) (os : List Offer) → candidates_of (words_from start os) ≡ candidates_from start os
unfolding candidates_of words_from candidates_from
words-read start [] = records_none 6 candidate_by (lit< tt)
words-read start (o ∷ os) = records_cons 6 candidate_by (lit< tt) (six_words start o) (words_from (start + length o.numbers) os) refl ∙ ap (λ (l : List Candidate). candidate_of start o ∷ l) (words-read (start + length o.numbers) os)

pub candidates-length : (start : ℕ) (os : List Offer) → length (candidates_from start os) ≡ length os
unfolding candidates_from
candidates-length start [] = refl
candidates-length start (o ∷ os) = omega (arith, candidates-length (start + length o.numbers) os)

-- ---- the offer that a candidate says, over a list of numbers

abbrev pub offer_in : List ℕ → Candidate → Offer
offer_in ns c =
    record { kind = c.kind; level = c.level; batch_len = c.batch_len; output = c.output_level; numbers = take c.count (drop c.start ns) }

-- `before` stands in front of the offers' numbers
offers_in : (os : List Offer) (before : List ℕ) (start : ℕ) → length before ≡ start → map (offer_in (before ++ numbers_in os)) (candidates_from start os) ≡ os
unfolding candidates_from numbers_in
offers_in [] before start e = refl
offers_in (o ∷ os) before start e =
    let n : ℕ = length o.numbers in
    let more : List ℕ = numbers_in os in
    let here : offer_in (before ++ (o.numbers ++ more)) (candidate_of start o) ≡ o = rw (drop_at before (o.numbers ++ more) start e, take_at o.numbers more n refl) in
    let rest : map (offer_in (before ++ (o.numbers ++ more))) (candidates_from (start + n) os) ≡ os = rw (append_assoc before o.numbers more) at (offers_in os (before ++ o.numbers) (start + n) (length-append before o.numbers ∙ rw e)) in
    rw (here, rest)

pub offers_back : (q : GenerateInput) → map (offer_in (number_words q)) (candidates_of (candidate_words q)) ≡ made_of q
offers_back q = rw (words-read 0 (made_of q)) (offers_in (made_of q) [] 0 refl)

-- each of them is an offer's, its numbers in their place
pub candidate_in : (os : List Offer) (start : ℕ) (c : Candidate) → Memᴰ c (candidates_from start os) → (o : Offer) × (i : ℕ) × Memᴰ o os × (c ≡ candidate_of i o) × (i + length o.numbers ≤ start + length (numbers_in os))
unfolding candidates_from numbers_in
candidate_in [] start c m = absurd (Memᴰ.not-nil m)
candidate_in (o ∷ os) start c m =
    ⊎_elim (λ e. (o, start, Memᴰ.head refl, e, omega (arith, length-append o.numbers (numbers_in os))))
    (λ k.
    let r = candidate_in os (start + length o.numbers) c k in
    (r.0, r.1, Memᴰ.tail r.2, r.3, omega (arith, r.4, length-append o.numbers (numbers_in os))))
    (Memᴰ.cases_cons m)
