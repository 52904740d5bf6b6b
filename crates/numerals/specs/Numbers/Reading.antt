-- Digits of either kind, one at a time, and that both kinds of number are read so.
use Rattle.std.specs.Prelude.{Some, None, ◌≡◌, refl, ℕ, suc, ◌+◌, ◌-◌, ◌*◌, ◌^◌, ◌≤◌, ◌<◌, Bool, true, false, cond, not, ◌&&◌, List, [], ◌∷◌, length, drop, get_or, leb, ltb, eqb}
use Rattle.std.proofs.Common.{sym, ◌∙◌, ap, lt_of_lt_of_le, mul-le-mul_right, le_of_eq, mul_assoc, le-mul_of_pos_right, le-add_right, add-one, arith, drop_of_length-le, drop-cons}
use Rattle.std.proofs.Math.Nat.{pow-succ', pow-zero, le_trans}
use Rattle.std.proofs.lemmas.Bool.{false≢true}
use Rattle.std.proofs.Math.Bool.{and-false}
use borrow.Author.Tests.{le-leb, lt-leb, lt-ltb, le-ltb, leb-true, ltb-true, eqb-true, ne_eqb}
use Rattle.std.proofs.lemmas.Bool.Decides.{nat_tests}
use Rattle.std.specs.Char.{digit_value as std_value}
use Rattle.lists.specs.Tests.{by-test, both, cond_and, cond_same}
use Rattle.numerals.specs.Numbers.{is_digit, all_of, value_from, digit_of, well_begun, decimal_of, is_hex, hex_digit_of, bits_of, is_upper, is_lower, digit_value, number_from}

-- more digits never make less of a number
value_grows : (digit : ℕ → ℕ) (base n : ℕ) (bs : List ℕ) → 0 < base → n ≤ value_from digit base n bs
unfolding value_from
value_grows digit base n [] h = omega arith
value_grows digit base n (b ∷ bs) h = le_trans (le_trans (le-mul_of_pos_right n h) (le-add_right (n * base) (digit b))) (value_grows digit base (n * base + digit b) bs h)

module _ (base n : ℕ) (s : List ℕ) (i : ℕ) where
  pub number-end : length s ≤ i → n < 2 ^ 64 → number_from base n (drop i s) ≡ Some n
  unfolding number_from all_of value_from
  number-end h k = rw (drop_of_length-le s h, lt-ltb _ _ k)

  pub number_more : i < length s → digit_value (get_or s i 0) < base → number_from base n (drop i s) ≡ number_from base (n * base + digit_value (get_or s i 0)) (drop (i + 1) s)
  unfolding number_from all_of value_from
  number_more h d = rw (drop-cons s i 0 h, lt-ltb _ _ d, add-one)

  pub number_stray : i < length s → base ≤ digit_value (get_or s i 0) → number_from base n (drop i s) ≡ None
  unfolding number_from all_of
  number_stray h d = rw (drop-cons s i 0 h, le-ltb _ _ d)

  pub number-over : 0 < base → i < length s → 2 ^ 64 ≤ n * base + digit_value (get_or s i 0) → number_from base n (drop i s) ≡ None
  unfolding number_from value_from
  number-over z h o =
      let v = le_trans o (value_grows digit_value base (n * base + digit_value (get_or s i 0)) (drop (suc i) s) z) in
      rw (drop-cons s i 0 h, le-ltb _ _ v, and-false)

-- the library's value of a digit is ours, to a base of at most 16; the letters behind F are digits to neither
module _ (base b : ℕ) where
  pub digit_same : base ≤ 16 → std_value b < base → digit_value b ≡ std_value b
  unfolding digit_value
  digit_same h d = grind (arith, nat_tests)

  pub digit_stray : base ≤ 16 → (std_value b < base → ⊥) → base ≤ digit_value b
  unfolding digit_value
  digit_stray h d = grind (arith, nat_tests)

-- ---- both kinds of number

pub between : (lo hi b : ℕ) → leb lo b && leb b hi ≡ true → (lo ≤ b) × (b ≤ hi)
between lo hi b e = let p = both (leb lo b) (leb b hi) e in (leb-true _ _ p.0, leb-true _ _ p.1)

record Digit (b v : ℕ) : Type 0 where
  decimal : is_digit b ≡ ltb v 10
  hex : is_hex b ≡ ltb v 16
  as_decimal : is_digit b ≡ true → v ≡ digit_of b
  as_hex : is_hex b ≡ true → v ≡ hex_digit_of b

digit_is : (b : ℕ) → Digit b (digit_value b)
unfolding digit_value
digit_is b =
    by-test (Digit b) (is_digit b) _ _ (λ d. let p = between 48 57 b d in
    record { decimal = simp (d, lt-ltb (b - 48) 10 (omega arith)); hex = simp (d, lt-ltb (b - 48) 16 (omega arith)); as_decimal = λ _. refl; as_hex = λ _. simp (le-leb b 57 (omega arith)) }) λ d.
    by-test (Digit b) (is_upper b) _ _ (λ u. let p = between 65 70 b u in
    record { decimal = simp (d, le-ltb (b - 55) 10 (omega arith)); hex = simp (d, u, lt-ltb (b - 55) 16 (omega arith)); as_decimal = λ z. not_digit d z; as_hex = λ _. simp (lt-leb b 57 (omega arith), le-leb b 70 (omega arith)) }) λ u.
    by-test (Digit b) (is_lower b) _ _ (λ l. let p = between 97 102 b l in
    record { decimal = simp (d, le-ltb (b - 87) 10 (omega arith)); hex = simp (d, u, l, lt-ltb (b - 87) 16 (omega arith)); as_decimal = λ z. not_digit d z; as_hex = λ _. simp (lt-leb b 57 (omega arith), lt-leb b 70 (omega arith)) }) λ l.
    record { decimal = d; hex = simp (d, u, l); as_decimal = λ z. not_digit d z; as_hex = λ z. not_digit (simp (d, u, l)) z }
  where
    not_digit : {t : Bool} {m n : ℕ} → t ≡ false → t ≡ true → m ≡ n
    not_digit e z = absurd (false≢true (sym e ∙ z))

all_same : (p q : ℕ → Bool) → ((b : ℕ) → p b ≡ q b) → (bs : List ℕ) → all_of p bs ≡ all_of q bs
unfolding all_of
all_same p q e [] = refl
all_same p q e (b ∷ bs) = rw (e b, all_same p q e bs)

value_same : (p : ℕ → Bool) (f g : ℕ → ℕ) → ((b : ℕ) → p b ≡ true → f b ≡ g b) → (base n : ℕ) (bs : List ℕ) → all_of p bs ≡ true → value_from f base n bs ≡ value_from g base n bs
unfolding all_of value_from
value_same p f g e base n [] h = refl
value_same p f g e base n (b ∷ bs) h =
    let k = both (p b) (all_of p bs) h in
    ap (λ (d : ℕ). value_from f base (n * base + d) bs) (e b k.0) ∙ value_same p f g e base (n * base + g b) bs k.1

-- digits to a base make less than one more of the number before them would with a nought for each
value-below : (digit : ℕ → ℕ) (base n : ℕ) (bs : List ℕ) → all_of (λ (b : ℕ). ltb (digit b) base) bs ≡ true → value_from digit base n bs < (n + 1) * base ^ length bs
unfolding all_of value_from
value-below digit base n [] h = rw pow-zero (omega arith)
value-below digit base n (b ∷ bs) h =
    let k = both (ltb (digit b) base) _ h in
    let d : digit b < base = ltb-true _ _ k.0 in
    let s : n * base + digit b + 1 ≤ (n + 1) * base = omega arith in
    lt_of_lt_of_le (value-below digit base (n * base + digit b) bs k.1) (le_trans (mul-le-mul_right (base ^ length bs) s) (le_of_eq (mul_assoc (n + 1) base (base ^ length bs) ∙ rw (← pow-succ'))))

pub decimal-read : (bs : List ℕ) → decimal_of bs ≡ cond (well_begun bs) (number_from 10 0 bs) None
unfolding decimal_of number_from
decimal-read bs = rw (← (all_same is_digit _ (λ b. (digit_is b).decimal) bs)) (go (all_of is_digit bs) refl)
  where
    go : (t : Bool) → all_of is_digit bs ≡ t
        → cond (t && (well_begun bs && ltb (value_from digit_of 10 0 bs) (2 ^ 64))) (Some (value_from digit_of 10 0 bs)) None
        ≡ cond (well_begun bs) (cond (t && ltb (value_from digit_value 10 0 bs) (2 ^ 64)) (Some (value_from digit_value 10 0 bs)) None) None
    go false e = sym (cond_same (well_begun bs) None)
    go true e = rw (value_same is_digit digit_value digit_of (λ b. (digit_is b).as_decimal) 10 0 bs e) (cond_and (well_begun bs) _ _ None)

pub bits_read : (bs : List ℕ) → bits_of bs ≡ cond (eqb (length bs) 16) (number_from 16 0 bs) None
unfolding bits_of number_from
bits_read bs = rw (← (all_same is_hex _ (λ b. (digit_is b).hex) bs)) (go (eqb (length bs) 16) (all_of is_hex bs) refl refl)
  where
    go : (s t : Bool) → eqb (length bs) 16 ≡ s → all_of is_hex bs ≡ t
        → cond (s && t) (Some (value_from hex_digit_of 16 0 bs)) None
        ≡ cond s (cond (t && ltb (value_from digit_value 16 0 bs) (2 ^ 64)) (Some (value_from digit_value 16 0 bs)) None) None
    go false t d e = refl
    go true false d e = refl
    go true true d e =
        let n : length bs ≡ 16 = eqb-true _ _ d in
        let a = sym (all_same is_hex _ (λ b. (digit_is b).hex) bs) ∙ e in
        let l : value_from digit_value 16 0 bs < 2 ^ 64 = rw n at (value-below digit_value 16 0 bs a) in
        rw (lt-ltb _ _ l, value_same is_hex digit_value hex_digit_of (λ b. (digit_is b).as_hex) 16 0 bs e)

-- how digits begin, by how many there are
pub begun-none : (s : List ℕ) → length s ≡ 0 → well_begun s ≡ false
unfolding well_begun
begun-none [] e = refl
begun-none (a ∷ s) e = absurd (omega arith)

pub begun-one : (s : List ℕ) → length s ≡ 1 → well_begun s ≡ true
unfolding well_begun
begun-one [] e = absurd (omega arith)
begun-one (a ∷ []) e = refl
begun-one (a ∷ b ∷ s) e = absurd (omega arith)

pub begun_more : (s : List ℕ) → 1 < length s → well_begun s ≡ not (eqb (get_or s 0 0) 48)
unfolding well_begun
begun_more [] h = absurd (omega arith)
begun_more (a ∷ []) h = absurd (omega arith)
begun_more (a ∷ b ∷ s) h = refl

pub begun_well : (s : List ℕ) → 0 < length s → (1 < length s → get_or s 0 0 ≡ 48 → ⊥) → well_begun s ≡ true
unfolding well_begun
begun_well [] h n = absurd (omega arith)
begun_well (a ∷ []) h n = refl
begun_well (a ∷ b ∷ s) h n = rw (ne_eqb a 48 (n (omega arith)))
