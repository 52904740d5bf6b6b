-- Numbers in text, read and written. Definitions only.
pub mod Accepted
pub mod Digits
pub mod Reading
pub mod Short
use Rattle.std.specs.Prelude.{Option, Some, None, ℕ, zero, suc, ◌+◌, ◌-◌, ◌*◌, ◌/◌, ◌%◌, ◌^◌, Bool, true, false, cond, not, ◌&&◌, ◌||◌, List, [], ◌∷◌, ◌++◌, length, leb, ltb, eqb}

-- what was read: 1 and the number, or 0 and 0
abbrev pub read_numbers : Option ℕ → List ℕ
read_numbers None = 0 ∷ 0 ∷ []
read_numbers (Some n) = 1 ∷ n ∷ []

abbrev pub is_value : Option ℕ → Bool
is_value (Some n) = true
is_value None = false

abbrev pub value_of : Option ℕ → ℕ
value_of (Some n) = n
value_of None = 0

abbrev pub is_digit : ℕ → Bool
is_digit b = leb 48 b && leb b 57

unfoldable pub all_of : (ℕ → Bool) → List ℕ → Bool
all_of p [] = true
all_of p (b ∷ bs) = p b && all_of p bs

-- what digits stand for, to a base, after a number n of them
unfoldable pub value_from : (ℕ → ℕ) → ℕ → ℕ → List ℕ → ℕ
value_from digit base n [] = n
value_from digit base n (b ∷ bs) = value_from digit base (n * base + digit b) bs

abbrev pub digit_of : ℕ → ℕ
digit_of b = b - 48

-- 0 itself, or digits that do not begin with 0
unfoldable pub well_begun : List ℕ → Bool
well_begun [] = false
well_begun (b ∷ []) = true
well_begun (b ∷ c ∷ bs) = not (eqb b 48)

-- decimal digits, no leading zero but in 0 itself, below 2^64
unfoldable pub decimal_of : List ℕ → Option ℕ
decimal_of bs =
    cond (all_of is_digit bs && (well_begun bs && ltb (value_from digit_of 10 0 bs) (2 ^ 64))) (Some (value_from digit_of 10 0 bs)) None

-- a hex digit of either case
abbrev pub is_hex : ℕ → Bool
is_hex b = is_digit b || ((leb 65 b && leb b 70) || (leb 97 b && leb b 102))

abbrev pub hex_digit_of : ℕ → ℕ
hex_digit_of b = cond (leb b 57) (b - 48) (cond (leb b 70) (b - 55) (b - 87))

-- exactly 16 of them
unfoldable pub bits_of : List ℕ → Option ℕ
bits_of bs = cond (eqb (length bs) 16 && all_of is_hex bs) (Some (value_from hex_digit_of 16 0 bs)) None

-- a number's decimal digits, the fewest that hold it: at most k + 1 of them
unfoldable pub digits_up_to : ℕ → ℕ → List ℕ
digits_up_to zero n = (48 + n % 10) ∷ []
digits_up_to (suc k) n = cond (ltb n 10) ((48 + n) ∷ []) (digits_up_to k (n / 10) ++ ((48 + n % 10) ∷ []))

-- a u64 has at most 20
abbrev pub spelt : ℕ → List ℕ
spelt n = digits_up_to 19 n

-- a hex digit, its letter in upper case or not
unfoldable pub hex_byte : Bool → ℕ → ℕ
hex_byte upper d = cond (ltb d 10) (48 + d) (cond upper (55 + d) (87 + d))

-- the last k hex digits of a number, each in the case that its place asks for
unfoldable pub hex_digits : (ℕ → Bool) → ℕ → ℕ → List ℕ
hex_digits upper zero n = []
hex_digits upper (suc k) n = hex_digits upper k (n / 16) ++ (hex_byte (upper k) (n % 16) ∷ [])

-- ---- either kind of digits, read from the left

abbrev pub is_upper : ℕ → Bool
is_upper b = leb 65 b && leb b 70

abbrev pub is_lower : ℕ → Bool
is_lower b = leb 97 b && leb b 102

-- what a digit stands for, and 16 for a byte that is none
unfoldable pub digit_value : ℕ → ℕ
digit_value b = cond (is_digit b) (b - 48) (cond (is_upper b) (b - 55) (cond (is_lower b) (b - 87) 16))

-- digits to a base, after a number n of them, below 2^64
unfoldable pub number_from : ℕ → ℕ → List ℕ → Option ℕ
number_from base n bs =
    cond (all_of (λ (b : ℕ). ltb (digit_value b) base) bs && ltb (value_from digit_value base n bs) (2 ^ 64)) (Some (value_from digit_value base n bs)) None
