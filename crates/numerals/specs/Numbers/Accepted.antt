-- What a text is accepted as, and that each number below 2^64 is accepted as written: in decimal, and as 16 hex digits, each of either case.
use Rattle.std.specs.Prelude.{Some, None, ◌≡◌, refl, ℕ, zero, suc, ◌+◌, ◌*◌, ◌/◌, ◌%◌, ◌^◌, ◌≤◌, ◌<◌, Bool, true, false, cond, ◌&&◌, List, [], ◌∷◌, ◌++◌, length, get_or, ltb, eqb}
use Rattle.std.proofs.Common.{sym, ◌∙◌, lt_trans, div-lt_iff_lt-mul, pow-suc, arith, length-append, lit<, lt-ltb, le-leb, ltb-true, ltb-false, eqb-true, ne_eqb}
use Rattle.std.proofs.Math.Nat.{pow-zero}
use Rattle.std.proofs.lemmas.Bool.{false≢true, lt-leb}
use Rattle.lists.specs.Tests.{by-test, both}
use Rattle.numerals.specs.Numbers.{is_digit, all_of, value_from, digit_of, well_begun, decimal_of, is_hex, hex_digit_of, bits_of, digits_up_to, spelt, hex_byte, hex_digits}
use Rattle.numerals.specs.Numbers.Digits.{tenth}

taken : (t : Bool) (v n : ℕ) → cond t (Some v) None ≡ Some n → (t ≡ true) × (v ≡ n)
taken true v n e = (refl, cc)
taken false v n e = let z : ◌≡◌ {A = ℕ} 0 1 = cc in absurd (omega arith)

-- ---- what is accepted is that number

pub record Decimal (bs : List ℕ) (n : ℕ) : Type 0 where
  pub digits : all_of is_digit bs ≡ true
  pub begun : well_begun bs ≡ true
  pub small : n < 2 ^ 64
  pub value : value_from digit_of 10 0 bs ≡ n

pub decimal-accepted : (bs : List ℕ) (n : ℕ) → decimal_of bs ≡ Some n → Decimal bs n
unfolding decimal_of
decimal-accepted bs n e =
    let t = taken (all_of is_digit bs && (well_begun bs && ltb (value_from digit_of 10 0 bs) (2 ^ 64))) (value_from digit_of 10 0 bs) n e in
    let p = both (all_of is_digit bs) _ t.0 in
    let q = both (well_begun bs) _ p.1 in
    record { digits = p.0; begun = q.0; small = rw t.1 at (ltb-true (value_from digit_of 10 0 bs) (2 ^ 64) q.1); value = t.1 }

pub record Bits (bs : List ℕ) (n : ℕ) : Type 0 where
  pub sixteen : length bs ≡ 16
  pub digits : all_of is_hex bs ≡ true
  pub value : value_from hex_digit_of 16 0 bs ≡ n

pub bits_accepted : (bs : List ℕ) (n : ℕ) → bits_of bs ≡ Some n → Bits bs n
unfolding bits_of
bits_accepted bs n e =
    let t = taken (eqb (length bs) 16 && all_of is_hex bs) (value_from hex_digit_of 16 0 bs) n e in
    let p = both (eqb (length bs) 16) _ t.0 in
    record { sixteen = eqb-true _ _ p.0; digits = p.1; value = t.1 }

-- ---- and each number is accepted as written

all_snoc : (p : ℕ → Bool) (bs : List ℕ) (b : ℕ) → all_of p bs ≡ true → p b ≡ true → all_of p (bs ++ (b ∷ [])) ≡ true
unfolding all_of
all_snoc p [] b h k = rw k
all_snoc p (a ∷ bs) b h k = let q = both (p a) (all_of p bs) h in rw q.0 (all_snoc p bs b q.1 k)

value_snoc : (digit : ℕ → ℕ) (base n : ℕ) (bs : List ℕ) (b : ℕ) → value_from digit base n (bs ++ (b ∷ [])) ≡ value_from digit base n bs * base + digit b
unfolding value_from
value_snoc digit base n [] b = refl
value_snoc digit base n (a ∷ bs) b = value_snoc digit base (n * base + digit a) bs b

record Written (n : ℕ) (bs : List ℕ) : Type 0 where
  digits : all_of is_digit bs ≡ true
  value : value_from digit_of 10 0 bs ≡ n
  begun : well_begun bs ≡ true
  first : 0 < n → eqb (get_or bs 0 48) 48 ≡ false

is_digit_lem : (d : ℕ) → d < 10 → is_digit (48 + d) ≡ true
is_digit_lem d h = simp (le-leb 48 (48 + d) (omega arith), le-leb (48 + d) 57 (omega arith))

one_written : (n d : ℕ) → n < 10 → d ≡ n → Written n ((48 + d) ∷ [])
unfolding all_of value_from well_begun
one_written n d h e =
    record {
      digits = rw (is_digit_lem d (omega arith));
      value = omega arith;
      begun = refl;
      first = λ z. ne_eqb (48 + d) 48 (omega arith);
    }

first_snoc : (bs : List ℕ) (b : ℕ) → eqb (get_or bs 0 48) 48 ≡ false → (well_begun (bs ++ (b ∷ [])) ≡ true) × (eqb (get_or (bs ++ (b ∷ [])) 0 48) 48 ≡ false)
unfolding well_begun
first_snoc [] b h = absurd (false≢true (sym h))
first_snoc (a ∷ []) b h = (rw h, h)
first_snoc (a ∷ c ∷ bs) b h = (rw h, h)

written : (k n : ℕ) → n < 10 ^ suc k → Written n (digits_up_to k n)
unfolding digits_up_to
written zero n h = one_written n (n % 10) h (omega arith)
written (suc k) n h =
    by-test (Written n) (ltb n 10) _ _ (λ t. one_written n n (ltb-true _ _ t) refl) λ t.
    let m : 10 ≤ n = ltb-false _ _ t in
    let w = written k (n / 10) (tenth k n h) in
    let f = first_snoc (digits_up_to k (n / 10)) (48 + n % 10) (w.first (omega arith)) in
    record {
      digits = all_snoc is_digit (digits_up_to k (n / 10)) (48 + n % 10) w.digits (is_digit_lem (n % 10) (omega arith));
      value = value_snoc digit_of 10 0 (digits_up_to k (n / 10)) (48 + n % 10) ∙ rw w.value (omega arith);
      begun = f.0;
      first = λ _. f.1;
    }

pub decimal-spelt : (n : ℕ) → n < 2 ^ 64 → decimal_of (spelt n) ≡ Some n
unfolding decimal_of
decimal-spelt n h = let w = written 19 n (lt_trans h (lit< tt)) in rw (w.digits, w.begun, w.value, lt-ltb n (2 ^ 64) h)

record WrittenHex (k n : ℕ) (bs : List ℕ) : Type 0 where
  count : length bs ≡ k
  digits : all_of is_hex bs ≡ true
  value : value_from hex_digit_of 16 0 bs ≡ n

hex_byte_lem : (upper : Bool) (d : ℕ) → d < 16 → (is_hex (hex_byte upper d) ≡ true) × (hex_digit_of (hex_byte upper d) ≡ d)
unfolding hex_byte
hex_byte_lem upper d h =
    by-test P (ltb d 10) _ _ (λ t. let l : d < 10 = ltb-true _ _ t in
    (rw (is_digit_lem d l), rw (le-leb (48 + d) 57 (omega arith)) (omega arith))) λ t. let l : 10 ≤ d = ltb-false _ _ t in
    by-test P upper _ _
    (λ _. let a = lt-leb (55 + d) 57 (omega arith) in let b = le-leb (55 + d) 70 (omega arith) in (simp (le-leb 48 (55 + d) (omega arith), a, le-leb 65 (55 + d) (omega arith), b), simp (a, b) (omega arith)))
    (λ _. let a = lt-leb (87 + d) 57 (omega arith) in let b = lt-leb (87 + d) 70 (omega arith) in (simp (le-leb 48 (87 + d) (omega arith), a, le-leb 65 (87 + d) (omega arith), b, le-leb 97 (87 + d) (omega arith), le-leb (87 + d) 102 (omega arith)), simp (a, b) (omega arith)))
  where
    P : ℕ → Type 0
    P b = (is_hex b ≡ true) × (hex_digit_of b ≡ d)

hex-written : (upper : ℕ → Bool) (k n : ℕ) → n < 16 ^ k → WrittenHex k n (hex_digits upper k n)
unfolding hex_digits all_of value_from
hex-written upper zero n h = record { count = refl; digits = refl; value = let z : n < 1 = rw pow-zero at h in omega arith }
hex-written upper (suc k) n h =
    let w = hex-written upper k (n / 16) ((div-lt_iff_lt-mul (lit< tt)).1 (rw pow-suc at h)) in
    let b = hex_byte_lem (upper k) (n % 16) (omega arith) in
    record {
      count = length-append (hex_digits upper k (n / 16)) (hex_byte (upper k) (n % 16) ∷ []) ∙ rw w.count (omega arith);
      digits = all_snoc is_hex (hex_digits upper k (n / 16)) (hex_byte (upper k) (n % 16)) w.digits b.0;
      value = value_snoc hex_digit_of 16 0 (hex_digits upper k (n / 16)) (hex_byte (upper k) (n % 16)) ∙ rw (w.value, b.1) (omega arith);
    }

pub bits_written : (upper : ℕ → Bool) (n : ℕ) → n < 2 ^ 64 → bits_of (hex_digits upper 16 n) ≡ Some n
unfolding bits_of
bits_written upper n h = let w = hex-written upper 16 n h in rw (w.count, w.digits, w.value)
