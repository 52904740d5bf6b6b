-- The law of the root in whole numbers, told by squares: of v * 4^S, R is the nearest to its root, and has 53 digits.
-- Assumes nothing.
use Rattle.std.specs.Prelude.{◌≡◌, ℕ, zero, suc, ◌+◌, ◌-◌, ◌*◌, ◌/◌, ◌^◌, ◌<◌, ◌≤◌, Bool, true, false, cond, not, T, nat_le, nat_lt, refl}
use Rattle.std.proofs.Common.{sym, ap, ◌∙◌, le_trans, le_of_eq, lt_of_not-le, not-le_of_lt, lt_of_le_of_lt, lt_of_lt_of_le, le_antisymm, mul_assoc, mul-le-mul, mul-le-mul_right, lit≤, leb→le, ltb→lt, nltb→le, pow-add, pow_mono, shl_lt}
use Rattle.std.proofs.Math.Nat.{pow-succ'}
use Rattle.std.proofs.Math.Decide.{dec_le}
use native.Mathlib.Omega.{arith}
use Rattle.std.proofs.Math.Dec.{nleb→lt}
use Rattle.std.specs.Float.Ieee.{size}
use Rattle.std.specs.Float.Ieee.Digits.{size-lt, size-le, size_reaches}
use Rattle.arith.specs.Whole.{dropped_of, kept_of, rounded_of}
use Rattle.arith.specs.Whole.Values.{parts}
use Rattle.arith.specs.Whole.Rounding.{size_gt, kept-le, rounded_le, rounded_pos}
use Rattle.arith.specs.Root.{with_digit, floor_root, nearest_root, root_shift, root_digits}

pub sq_lt : (a b : ℕ) → a * a < b * b → a < b
sq_lt a b h = lt_of_not-le (λ (k : b ≤ a). not-le_of_lt h (mul-le-mul k k))

pub sq_le : {a b : ℕ} → a ≤ b → a * a ≤ b * b
sq_le h = mul-le-mul h h

pub sq_strict : {a b : ℕ} → a < b → a * a < b * b
sq_strict {a} h = lt_of_lt_of_le (omega arith) (sq_le h)

-- ---- the root rounded down
pub record IsFloor (x r : ℕ) : Type 0 where
  pub low : r * r ≤ x
  pub high : x < (r + 1) * (r + 1)

pub floor_unique : (x r s : ℕ) → IsFloor x r → IsFloor x s → r ≡ s
floor_unique x r s a b = le_antisymm (under r s a b) (under s r b a)
  where
    under : (r s : ℕ) → IsFloor x r → IsFloor x s → r ≤ s
    under r s a b = omega (arith, sq_lt r (s + 1) (lt_of_le_of_lt a.low b.high))

with_digit_lem : (x r : ℕ) → IsFloor (x / 4) r → IsFloor x (with_digit r x)
unfolding with_digit
with_digit_lem x r h = go (nat_le ((2 * r + 1) * (2 * r + 1)) x) (leb→le _ _) (nleb→lt _ _)
  where
    go : (b : Bool) → (T b → (2 * r + 1) * (2 * r + 1) ≤ x) → (T (not b) → x < (2 * r + 1) * (2 * r + 1)) → IsFloor x (cond b (2 * r + 1) (2 * r))
    go true l g = record { low = l tt; high = omega (arith, h.high) }
    go false l g = record { low = omega (arith, h.low); high = g tt }

pub floor_root_lem : (k x : ℕ) → x < 4 ^ k → IsFloor x (floor_root k x)
unfolding floor_root
floor_root_lem zero x h = record { low = omega arith; high = omega arith }
floor_root_lem (suc k) x h = with_digit_lem x (floor_root k (x / 4)) (floor_root_lem k (x / 4) (omega (arith, pow-succ' 4 k)))

-- ---- the nearest: no tie can be, since (2 R + 1)^2 is odd and 4 x is even
pub record IsNearest (x R : ℕ) : Type 0 where
  pub low : (2 * R - 1) * (2 * R - 1) < 4 * x
  pub high : 4 * x < (2 * R + 1) * (2 * R + 1)

pub nearest_root_lem : (x r : ℕ) → 0 < r → IsFloor x r → IsNearest x (nearest_root x r)
unfolding nearest_root
nearest_root_lem x r p h = go (nat_lt r (x - r * r)) (ltb→lt r (x - r * r)) (nltb→le r (x - r * r))
  where
    less : 2 * r - 1 < 2 * r
    less = omega arith

    go : (b : Bool) → (T b → r < x - r * r) → (T (not b) → x - r * r ≤ r) → IsNearest x (cond b (r + 1) r)
    go true g l =
        let up : 2 * (r + 1) - 1 ≤ 2 * r + 1 = omega arith in
        let rest : r < x - r * r = g tt in
        record { low = lt_of_le_of_lt (sq_le up) (omega arith); high = omega (arith, h.high) }
    go false g l =
        let rest : x - r * r ≤ r = l tt in
        record { low = lt_of_lt_of_le (sq_strict less) (omega (arith, h.low)); high = omega (arith, h.low) }

-- ---- the root of v
pub record Rooted (v R S : ℕ) : Type 0 where
  pub low : (2 * R - 1) * (2 * R - 1) < 4 * (v * 4 ^ S)
  pub high : 4 * (v * 4 ^ S) < (2 * R + 1) * (2 * R + 1)
  pub least : 2 ^ 52 ≤ R
  pub most : R < 2 ^ 53
  pub full : 2 ^ 104 ≤ v * 4 ^ S

pub digits_is : (v : ℕ) → root_digits v ≡ nearest_root (v * 4 ^ root_shift v) (floor_root 53 (v * 4 ^ root_shift v))
unfolding root_digits
digits_is v = refl

pub shift_le : (v : ℕ) → root_shift v ≤ 52
unfolding root_shift
shift_le v = omega arith

-- a number of 105 or 106 digits, of which 53 lead, has a root of 53
of_nearest : (v R S : ℕ) → 2 ^ 104 ≤ v * 4 ^ S → v * 4 ^ S ≤ 2 ^ 106 - 2 ^ 53 → IsNearest (v * 4 ^ S) R → Rooted v R S
of_nearest v R S least most h =
    let above : 2 ^ 53 < 2 * R + 1 = sq_lt (2 ^ 53) (2 * R + 1) (omega (arith, h.high)) in
    let below : 2 * R - 1 < 2 ^ 54 - 1 = sq_lt (2 * R - 1) (2 ^ 54 - 1) (omega (arith, h.low)) in
    record { low = h.low; high = h.high; least = omega arith; most = omega arith; full = least }

floor_pos : (x r : ℕ) → 0 < x → IsFloor x r → 0 < r
floor_pos x zero p h = omega (arith, h.high)
floor_pos x (suc r) p h = omega arith

pub four-pow : (k : ℕ) → 4 ^ k ≡ 2 ^ (k + k)
four-pow zero = refl
four-pow (suc k) = pow-succ' 4 k ∙ ap (λ (x : ℕ). 4 * x) (four-pow k) ∙ sym (pow-add 2 2 (k + k)) ∙ ap (λ (x : ℕ). 2 ^ x) (omega arith)

-- the largest number below 2^106 with 53 leading digits
gap : (q j : ℕ) → q ≤ 2 ^ 53 → q * 2 ^ j < 2 ^ 106 → q * 2 ^ j ≤ 2 ^ 106 - 2 ^ 53
gap q j h k = elim (dec_le 53 j) [
  | yes l ↦
      let in_two : q * 2 ^ j ≡ q * 2 ^ (j - 53) * 2 ^ 53 = ap (λ (x : ℕ). q * x) (parts j 53 l) ∙ sym (mul_assoc q (2 ^ (j - 53)) (2 ^ 53)) in
      omega arith
  | no g ↦ le_trans (mul-le-mul h (pow_mono {j = 52} (omega (arith, lt_of_not-le g)))) (lit≤ tt)
]

-- v is q * 2^k with at most 53 digits in q
module _ (v q k : ℕ) (is : v ≡ q * 2 ^ k) (short : q ≤ 2 ^ 53) (some : 0 < v) (most : v ≤ 2 ^ 64) where
  scaled : v * 4 ^ root_shift v ≡ v * 2 ^ (root_shift v + root_shift v)
  scaled = ap (λ (x : ℕ). v * x) (four-pow (root_shift v))

  room : (0 < size v) × (104 ≤ size v - 1 + (root_shift v + root_shift v)) × (size v + (root_shift v + root_shift v) ≤ 106)
  unfolding root_shift
  room =
      let few : size v ≤ 65 = size-le v 65 (omega arith) in
      let one : 0 < size v = size_gt v 0 some in
      (one, omega arith, omega arith)

  full : 2 ^ 104 ≤ v * 4 ^ root_shift v
  full =
      let j = size v - 1 in
      let s = root_shift v + root_shift v in
      le_trans (pow_mono room.1) (le_trans (le_of_eq (pow-add 2 j s)) (le_trans (mul-le-mul_right (2 ^ s) (size_reaches v j (omega (arith, room.0)))) (le_of_eq (sym scaled))))

  under : v * 4 ^ root_shift v ≤ 2 ^ 106 - 2 ^ 53
  under =
      let s = root_shift v + root_shift v in
      let whole : v * 4 ^ root_shift v ≡ q * 2 ^ (k + s) = scaled ∙ ap (λ (x : ℕ). x * 2 ^ s) is ∙ mul_assoc q (2 ^ k) (2 ^ s) ∙ ap (λ (x : ℕ). q * x) (sym (pow-add 2 k s)) in
      rw whole (gap q (k + s) short (rw (sym scaled ∙ whole) at (lt_of_lt_of_le (shl_lt (size v) s (size-lt v)) (pow_mono room.2))))

  pub rooted : Rooted v (root_digits v) (root_shift v)
  rooted =
      let x = v * 4 ^ root_shift v in
      let floor = floor_root_lem 53 x (omega (arith, under)) in
      rw (digits_is v) (of_nearest v (nearest_root x (floor_root 53 x)) (root_shift v) full under (nearest_root_lem x (floor_root 53 x) (floor_pos x (floor_root 53 x) (omega (arith, full)) floor) floor))

pub root_rooted : (n : ℕ) → 0 < n → n < 2 ^ 64 → Rooted (rounded_of n) (root_digits (rounded_of n)) (root_shift (rounded_of n))
unfolding rounded_of
root_rooted n p h = rooted (rounded_of n) (kept_of n) (dropped_of n) refl (kept-le n) (rounded_pos n p) (rounded_le n h)
