-- What `ln_1p` answers, beside the bracket of ln (1 + age): the one statement that the rest of this crate is for.
use Rattle.std.specs.Prelude.{ℕ, suc, ◌+◌, ◌-◌, ◌^◌, ◌≤◌, ◌<◌, false, Float}
use Rattle.std.specs.Float.Ieee.Exact.{HasValue}
use Rattle.arith.proofs.logarithm.ln_1p.Reads as contract
use Rattle.arith.specs.Whole.{rounded_of}
use Rattle.arith.specs.Logarithm.{units_of}
use Rattle.arith.specs.Logarithm.Value.{ln_value}
use Rattle.bracket.specs.Series.{Near}
use Rattle.bracket.proofs.Rounded.{near_age}

-- For each age, each answer r that the contract of `ln_1p` allows, and all numbers i and j of terms, with 2^k the largest power of two not above 1 + age:
-- r is n units of 2^-44, no more and no less, and n units are within 2^-40 of the bracket of ln (1 + age) = k ln 2 + 2 atanh ((1 + age - 2^k) / (1 + age + 2^k)).
pub ln_1p_near : (age : ℕ) (r : Float) (i j k : ℕ) → age < 2 ^ 64 → contract.Post tt (age, tt) r (age, tt) → 2 ^ k ≤ 1 + age → 1 + age < 2 ^ suc k →
    (n : ℕ) × HasValue r false n (2 ^ 44) × Near i j k (1 + age - 2 ^ k) (1 + age + 2 ^ k) n
ln_1p_near age r i j k fits post lo hi = (units_of (rounded_of age + 1), rw post (ln_value age fits), near_age i j k age fits lo hi)
