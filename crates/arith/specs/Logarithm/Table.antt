-- A test that passes at each place of a list passes at every one; the table has 1,024 entries.
use Rattle.std.specs.Prelude.{◌≡◌, ℕ, zero, suc, ◌+◌, ◌<◌, Bool, true, ◌&&◌, T, List, [], ◌∷◌, length, slice_index_or, refl}
use Rattle.std.proofs.Common.{add-zero, zero-add, add-suc, suc-add, le_of_suc-le-suc, not-suc-le-zero}
use Rattle.std.specs.Float.Ieee.Fits.{and_l, and_r}
use Rattle.arith.specs.Logarithm.{tab}

-- the test f passes at each place of a list, counted from i, with the entry there and the next one, e after the last
abbrev pub every : (ℕ → ℕ → ℕ → Bool) → ℕ → ℕ → List ℕ → Bool
every f e i [] = true
every f e i (x ∷ xs) = f i x (slice_index_or xs 0 e) && every f e (suc i) xs

from : (f : ℕ → ℕ → ℕ → Bool) (e : ℕ) (xs : List ℕ) (i : ℕ) → T (every f e i xs) → (k : ℕ) → k < length xs → T (f (i + k) (slice_index_or xs k e) (slice_index_or xs (suc k) e))
from f e [] i t k h = absurd (not-suc-le-zero h)
from f e (x ∷ xs) i t zero h = rw (add-zero i) (and_l (f i x (slice_index_or xs 0 e)) (every f e (suc i) xs) t)
from f e (x ∷ xs) i t (suc k) h = rw (add-suc i k, ← suc-add i k) (from f e xs (suc i) (and_r (f i x (slice_index_or xs 0 e)) (every f e (suc i) xs) t) k (le_of_suc-le-suc h))

pub at : (f : ℕ → ℕ → ℕ → Bool) (e : ℕ) (xs : List ℕ) → T (every f e 0 xs) → (k : ℕ) → k < length xs → T (f k (slice_index_or xs k e) (slice_index_or xs (suc k) e))
at f e xs t k h = rw (zero-add k) at (from f e xs 0 t k h)

pub tab-length : length tab ≡ 1024
unfolding tab
tab-length = refl
