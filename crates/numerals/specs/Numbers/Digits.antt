-- A number's decimal digits, one at a time.
use Rattle.std.specs.Prelude.{◌≡◌, refl, ℕ, zero, suc, ◌+◌, ◌/◌, ◌%◌, ◌^◌, ◌≤◌, ◌<◌, Bool, true, false, cond, List, [], ◌∷◌, ◌++◌, length, ltb}
use Rattle.std.proofs.Common.{div-lt_iff_lt-mul, lt_trans, pow-suc, arith, length-append, lit<, lt-ltb, le-ltb, ltb-true}
use Rattle.lists.specs.Tests.{by-test}
use Rattle.numerals.specs.Numbers.{digits_up_to, spelt}

-- a tenth has a digit less
pub tenth : (k n : ℕ) → n < 10 ^ suc (suc k) → n / 10 < 10 ^ suc k
tenth k n h = (div-lt_iff_lt-mul (lit< tt)).1 (rw pow-suc at h)

-- a digit more to spend changes nothing where the digits are enough
enough : (k n : ℕ) → n < 10 ^ suc k → digits_up_to (suc k) n ≡ digits_up_to k n
unfolding digits_up_to
enough zero n h = let r : n % 10 ≡ n = omega arith in rw (lt-ltb n 10 h, r)
enough (suc k) n h = rw (enough k (n / 10) (tenth k n h))

-- the digits before the last
unfoldable pub leading : ℕ → List ℕ
leading n = cond (ltb n 10) [] (spelt (n / 10))

pub leading-none : (n : ℕ) → n < 10 → leading n ≡ []
unfolding leading
leading-none n h = rw (lt-ltb n 10 h)

pub leading-some : (n : ℕ) → 10 ≤ n → leading n ≡ spelt (n / 10)
unfolding leading
leading-some n h = rw (le-ltb n 10 h)

pub spelt-last : (n : ℕ) → n < 2 ^ 64 → spelt n ≡ leading n ++ ((48 + n % 10) ∷ [])
unfolding leading digits_up_to
spelt-last n h = rw (enough 18 (n / 10) (tenth 18 n (lt_trans h (lit< tt)))) (go (ltb n 10) refl)
  where
    go : (t : Bool) → ltb n 10 ≡ t → cond t ((48 + n) ∷ []) (digits_up_to 18 (n / 10) ++ ((48 + n % 10) ∷ [])) ≡ cond t [] (digits_up_to 18 (n / 10)) ++ ((48 + n % 10) ∷ [])
    go true e = let r : n % 10 ≡ n = omega (arith, ltb-true) in rw r
    go false e = refl

-- a number below 10^(j + 1) has at most j + 1 digits
pub digits-few : (j k n : ℕ) → n < 10 ^ suc j → length (digits_up_to k n) ≤ suc j
unfolding digits_up_to
digits-few j zero n h = omega arith
digits-few zero (suc k) n h = rw (lt-ltb n 10 h) (omega arith)
digits-few (suc j) (suc k) n h =
    by-test (λ (l : List ℕ). length l ≤ suc (suc j)) (ltb n 10) _ _ (λ _. omega arith) λ _.
    omega (arith, length-append (digits_up_to k (n / 10)) ((48 + n % 10) ∷ []), digits-few j k (n / 10) (tenth j n h))

digits-within : (k n : ℕ) → length (digits_up_to k n) ≤ suc k
unfolding digits_up_to
digits-within zero n = omega arith
digits-within (suc k) n =
    by-test (λ (l : List ℕ). length l ≤ suc (suc k)) (ltb n 10) _ _ (λ _. omega arith) λ _.
    simp length-append (omega (arith, digits-within k (n / 10)))

-- a u64 has at most 20 digits
pub spelt-within : (n : ℕ) → length (spelt n) ≤ 20
spelt-within n = digits-within 19 n
