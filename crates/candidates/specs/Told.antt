-- What an answer tells: its refusal's number, and the two counts, which are 0 and 0 where it is refused. The answer is known by that.
use Rattle.std.specs.Prelude.{◌≡◌, Result, Ok, Err}
use Rattle.std.proofs.Common.{sym, ap}
use Rattle.refusals.specs.declared.Refusal.{Refusal}
use Rattle.refusals.specs.Refusals.{none}
use Rattle.refusals.specs.Codes.{number_of}
use Rattle.refusals.specs.Codes.Same.{same_refusal, refused}
use Rattle.candidates.specs.declared.Generated.{Generated as Counts}
use Rattle.candidates.specs.Generate.{Generated}

abbrev pub told_of : Result Counts Refusal → Generated
told_of (Ok g) = record { refusal = none; candidates = g.candidates; numbers = g.numbers }
told_of (Err e) = record { refusal = number_of e; candidates = 0; numbers = 0 }

abbrev counts_of : Generated → Counts
counts_of g = record { candidates = g.candidates; numbers = g.numbers }

pub same_outcome : (r s : Result Counts Refusal) → told_of r ≡ told_of s → r ≡ s
same_outcome (Ok a) (Ok b) e = ap (λ (g : Generated). Ok (counts_of g)) e
same_outcome (Ok a) (Err d) e = absurd (refused d (sym (ap (λ (g : Generated). g.refusal) e)))
same_outcome (Err d) (Ok b) e = absurd (refused d (ap (λ (g : Generated). g.refusal) e))
same_outcome (Err d) (Err f) e = ap Err (same_refusal d f (ap (λ (g : Generated). g.refusal) e))
