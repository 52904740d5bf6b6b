-- A decimal that is accepted has at most 20 digits.
use Rattle.std.specs.Prelude.{Some, ◌≡◌, refl, ℕ, suc, ◌+◌, ◌*◌, ◌^◌, ◌≤◌, ◌<◌, Bool, true, false, List, [], ◌∷◌, length, leb, eqb}
use Rattle.std.proofs.Common.{le_trans, lt_trans, not-le_of_lt, le-add_right, mul-le-mul, mul-le-mul_right, mul_assoc, arith, lit<, leb-true, leb-false}
use Rattle.std.proofs.Math.Nat.{pow-zero, pow-succ', pow-le-pow_right}
use Rattle.std.proofs.lemmas.Bool.{eqb-false, not-true}
use Rattle.lists.specs.Tests.{both}
use Rattle.numerals.specs.Numbers.{is_digit, all_of, value_from, digit_of, well_begun, decimal_of}
use Rattle.numerals.specs.Numbers.Accepted.{decimal-accepted}
use Rattle.numerals.specs.Numbers.Reading.{between}

-- digits make at least what the number before them would with a nought for each
value-least : (digit : ℕ → ℕ) (base n : ℕ) (bs : List ℕ) → n * base ^ length bs ≤ value_from digit base n bs
unfolding value_from
value-least digit base n [] = rw pow-zero (omega arith)
value-least digit base n (b ∷ bs) =
    rw (pow-succ', ← mul_assoc) (le_trans (mul-le-mul_right (base ^ length bs) (le-add_right (n * base) (digit b))) (value-least digit base (n * base + digit b) bs))

-- the first of more digits than one is not 0
first_some : (a b : ℕ) (bs : List ℕ) → all_of is_digit (a ∷ b ∷ bs) ≡ true → well_begun (a ∷ b ∷ bs) ≡ true → 0 < digit_of a
unfolding all_of well_begun
first_some a b bs d w = omega (arith, between 48 57 a (both (is_digit a) _ d).0, eqb-false a 48 (not-true (eqb a 48) w))

-- with 21 digits it would be 10^20 or more, which is above 2^64
pub decimal-short : (bs : List ℕ) (n : ℕ) → decimal_of bs ≡ Some n → length bs ≤ 20
unfolding value_from
decimal-short [] n e = omega arith
decimal-short (a ∷ []) n e = omega arith
decimal-short (a ∷ b ∷ bs) n e = go (leb (length bs) 18) refl
  where
    go : (t : Bool) → leb (length bs) 18 ≡ t → suc (suc (length bs)) ≤ 20
    go true t = omega (arith, leb-true)
    go false t =
        let d = decimal-accepted (a ∷ b ∷ bs) n e in
        let k : 20 ≤ suc (length bs) = omega (arith, leb-false) in
        let f : 1 ≤ 0 * 10 + digit_of a = omega (arith, first_some a b bs d.digits d.begun) in
        let v : 1 * 10 ^ 20 ≤ value_from digit_of 10 0 (a ∷ b ∷ bs) = le_trans (mul-le-mul f (pow-le-pow_right (lit< tt) k)) (value-least digit_of 10 (0 * 10 + digit_of a) (b ∷ bs)) in
        absurd (not-le_of_lt (lt_trans d.small (lit< tt)) (rw d.value at v))
