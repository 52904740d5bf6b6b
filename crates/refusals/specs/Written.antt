-- An answer of bytes in a lent buffer: with no fault at its front, and nothing after it; with a fault the buffer is as it was.
use Rattle.std.specs.Prelude.{◌≡◌, ℕ, ◌≤◌, Bool, true, false, cond, List, ◌++◌, length, take, drop, eqb}
use Rattle.std.proofs.Common.{sym, arith, length-append, length-take-le}
use Rattle.refusals.specs.Refusals.{none}

-- its refusal, and how many bytes they are, 0 beside a refusal
pub record Written : Type 0 where
  pub refusal : ℕ
  pub length : ℕ

abbrev pub written_of : ℕ → List ℕ → Written
written_of fault answer = record { refusal = fault; length = cond (eqb fault none) (length answer) 0 }

abbrev pub written_out : ℕ → List ℕ → List ℕ → List ℕ
written_out fault answer out = cond (eqb fault none) (answer ++ drop (length answer) out) out

-- n counts bytes at the front of a list. The second part follows from the first; both are what lending `&out[..n]` asks.
abbrev pub Counts : ℕ → List ℕ → Type 0
Counts n out = (n ≤ length out) × (n ≡ length (take n out))

front : (n : ℕ) (l : List ℕ) → n ≤ length l → Counts n l
front n l h = (h, sym (length-take-le n l h))

-- what is answered lies within the buffer
pub written-counts : (fault : ℕ) (answer out : List ℕ) → Counts (written_of fault answer).length (written_out fault answer out)
written-counts fault answer out = go (eqb fault none)
  where
    go : (t : Bool) → Counts (cond t (length answer) 0) (cond t (answer ++ drop (length answer) out) out)
    go true = front _ _ (omega (arith, length-append answer (drop (length answer) out)))
    go false = front 0 out (omega arith)

-- so it follows from the rest of a contract
pub with_counts : (fault : ℕ) (answer out : List ℕ) (r : Written) (new : List ℕ) → (r ≡ written_of fault answer) × (new ≡ written_out fault answer out)
    → (r ≡ written_of fault answer) × ((new ≡ written_out fault answer out) × Counts r.length new)
with_counts fault answer out r new (e, f) = (e, (f, rw (e, f) (written-counts fault answer out)))
