-- Counts that stop at the largest u64, and counts that a binary64 may not hold. Definitions only.
use Rattle.std.specs.Prelude.{ℕ, ◌+◌, ◌-◌, ◌^◌, min, Bool, ◌||◌, ltb}

abbrev pub saturating_add : ℕ → ℕ → ℕ
saturating_add a b = min (a + b) (2 ^ 64 - 1)

-- a count that a binary64 may not hold
abbrev pub large : ℕ → Bool
large n = ltb (2 ^ 53) n

abbrev pub any_large : ℕ → ℕ → ℕ → Bool
any_large a b c = large a || (large b || large c)
