-- What share of a level's excess over its budget some bytes are.
use Rattle.std.specs.Prelude.{ℕ, ◌+◌, ◌-◌, ◌^◌, ◌≤◌, min, max, ◌≡◌, List, [], ◌∷◌, eqb, Float}
use Rattle.std.proofs.Math.Nat.{min-eq_left}
use Rattle.std.specs.Float.{binary64}
use Rattle.std.specs.Float.Ieee.{div}
use Rattle.lists.specs.Filter.{filter_of}
use Rattle.arith.specs.Floats.{f0, f1, minimum_of}
use Rattle.arith.specs.Whole.{float_of}
use Rattle.records.specs.declared.tables.Table.{Table}
use Rattle.records.specs.declared.tables.Entry.{Entry}

abbrev pub at_level : ℕ → List Table → List Table
at_level l ts = filter_of (λ t. eqb t.level l) ts

unfoldable pub bytes_of : List Table → ℕ
bytes_of [] = 0
bytes_of (t ∷ ts) = t.size + bytes_of ts

-- a level's bytes, which stop at the largest u64
abbrev pub level_bytes_of : ℕ → List Table → ℕ
level_bytes_of l ts = min (bytes_of (at_level l ts)) (2 ^ 64 - 1)

-- the share that some bytes are of a level's excess over its budget, which counts as 1 at least
abbrev pub share_of : ℕ → ℕ → ℕ → Float
share_of bytes total budget = minimum_of (div binary64 (float_of bytes) (float_of (max (total - budget) 1))) f1

-- the share by the first of some entries
unfoldable pub first_share : List Entry → ℕ → ℕ → Float
first_share [] bytes total = f0
first_share (e ∷ es) bytes total = share_of bytes total e.budget

-- the share by the first entry with the level, whose bytes are `total`
abbrev pub relief_by : List Entry → ℕ → ℕ → ℕ → Float
relief_by es level bytes total = first_share (filter_of (λ e. eqb e.level level) es) bytes total

abbrev pub relief_of : List Table → List Entry → ℕ → ℕ → Float
relief_of ts es level bytes = relief_by es level bytes (bytes_of (at_level level ts))

-- a level's bytes that stop give that very share where they fit
pub relief-exact : (ts : List Table) (es : List Entry) (level bytes total : ℕ) → total ≡ level_bytes_of level ts → bytes_of (at_level level ts) ≤ 2 ^ 64 - 1 → relief_by es level bytes total ≡ relief_of ts es level bytes
relief-exact ts es level bytes total e h = rw (e, min-eq_left h)
