-- What a call says of its answer, by what is known of the answer's words, its refusal and its count.
use Rattle.std.specs.Prelude.{◌≡◌, refl, ℕ, cond, List, length, eqb}
use Rattle.std.proofs.Common.{◌∙◌}
use Rattle.refusals.specs.Refusals.{none}
use Rattle.refusals.specs.Written.{written_out}
use Rattle.snapshot.specs.Snapshot.{SnapshotAnswer, Stats, Refused}
use Rattle.answer_words.specs.AnswerWords.{answer_fault, figures_or}

pub told : (refusal says : ℕ) (words are : List ℕ) (n : ℕ) (out new : List ℕ) (r : ℕ) → refusal ≡ says → words ≡ are → length are ≡ n
    → (r ≡ answer_fault refusal (length words) (length out)) × (new ≡ written_out (answer_fault refusal (length words) (length out)) words out)
    → (r ≡ answer_fault says n (length out)) × (new ≡ written_out r are out)
told refusal says words are n out new r e f g p = (p.0 ∙ rw (e, f, g), p.1 ∙ rw (← p.0, f))

pub told-count : (refusal says n is old new r : ℕ) → refusal ≡ says → n ≡ is
    → (r ≡ refusal) × (new ≡ cond (eqb refusal none) n old)
    → (r ≡ says) × (new ≡ cond (eqb r none) is old)
told-count refusal says n is old new r e f p = (p.0 ∙ e, p.1 ∙ rw (← p.0, f))

pub fourteen : (a : SnapshotAnswer) → length (figures_or a) ≡ 14
unfolding figures_or
fourteen (Stats t) = refl
fourteen (Refused n) = refl
