-- Floats in 0 to 1.
use Rattle.std.specs.Prelude.{◌≡◌, refl, true, false, ℕ, ◌*◌, T, Float}
use Rattle.std.proofs.Common.{⊎_elim, arith, le-ltb}
use Rattle.std.specs.Float.{nan, inf, fin}
use Rattle.std.specs.Float.Ieee.{up, down, le, lt, is_nan, of_bits}
use Rattle.std.specs.Float.Ieee.Bits.{is_true}
use Rattle.arith.specs.Floats.{f0, f1, minimum_of}
use Rattle.arith.specs.Floats.Order.{le_no_nan, not_lt_le}
use Rattle.arith.specs.Floats.Clamp.{minimum_one_of, minimum_le}
use Rattle.arith.specs.Floats.Range.{Plain}
use Rattle.candidate_faults.specs.Candidates.{in_unit}

pub unit_is : (x : Float) → T (le f0 x) → T (le x f1) → in_unit x ≡ true
unfolding in_unit
unit_is x low high = rw (is_true (le f0 x) low, is_true (le x f1) high)

pub zero_unit : in_unit f0 ≡ true
unfolding in_unit le lt is_nan of_bits
zero_unit = refl

pub one_unit : in_unit f1 ≡ true
unfolding in_unit le lt is_nan of_bits
one_unit = refl

-- a float that is 0 or above, cut at 1
pub cut_unit : (x : Float) → T (le f0 x) → in_unit (minimum_of x f1) ≡ true
unfolding is_nan of_bits
cut_unit x low =
    let n = le_no_nan f0 x low in
    let m = minimum_le x f1 n.1 refl in
    ⊎_elim (λ e. unit_is _ (rw e low) m.1) (λ e. rw e one_unit) (minimum_one_of x f1)

pub plain_low : (k : ℕ) (x : Float) → Plain k x → T (le f0 x)
unfolding is_nan lt of_bits
plain_low k (fin false m e) h = not_lt_le f0 (fin false m e) refl refl (le-ltb (m * up e * 1) (0 * down e) (omega arith))
plain_low k nan h = elim h [ ]
plain_low k (inf _) h = elim h [ ]
plain_low k (fin true m e) h = elim h [ ]
