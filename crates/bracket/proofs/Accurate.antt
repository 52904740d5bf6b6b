-- The units at m beside the bracket of ln m, cell after cell of the table.
use Rattle.std.specs.Prelude.{ℕ, ◌+◌, ◌-◌, ◌*◌, ◌/◌, ◌%◌, ◌^◌, ◌≤◌, ◌<◌, ◌≡◌, get_or}
use Rattle.std.proofs.Common.{ap, le_trans, mul_comm, mul-le-mul_right, mod-lt, arith, pow_pos}
use Rattle.std.proofs.Math.Nat.{div-add-mod}
use Rattle.arith.specs.Logarithm.{tab, ln2, rem, top_of, big_of, units_of}
use Rattle.bracket.specs.Series.{Near}
use Rattle.bracket.specs.Beside.{Between}
use Rattle.bracket.proofs.Cell.{cell-under, cell-over}
use Rattle.arith.specs.Logarithm.Top.{rule_is, units_is, top_is, top-le, big_ge, big_lt, z-lt}
use Rattle.bracket.specs.Accurate.{joined}

-- ---- the units of the second part

-- c is the power of two, m / c is big / 2^53 but for y, and big is in the cell q of the table with e left
cell_at : (m c big y q e : ℕ) → c ≤ m → m < 2 * c → c * big + y ≡ m * 2 ^ 53 → y < c → big ≡ (1024 + q) * 2 ^ 43 + e → e < 2 ^ 43 → q < 1024 →
    let x = get_or tab q 0 + rem (e / (2 * (1024 + q))) in Between c (m - c) (x - 2) (x + 13)
cell_at m c big y q e hc hm hy ly hb he hq = record {
  under = λ n. omega (arith, cell-under n q c z g (m - c) hq (omega arith) z-small at (part x (mod-lt e (omega arith))));
  over = λ n. le_trans (mul-le-mul_right _ least) (rw (mul_comm (2 ^ 44) _) (cell-over n q c z g (m - c) hq (omega arith) z-small at (omega arith)));
}
  where
    z : ℕ
    z = e / (2 * (1024 + q))

    x : ℕ
    x = e % (2 * (1024 + q))

    g : ℕ
    g = x * c + y

    z-small : z < 2 ^ 32
    z-small = z-lt e (1024 + q) (omega arith) he

    part : (x : ℕ) → x < 2 * (1024 + q) → x * c + y ≤ 2 * (1024 + q) * c
    part x l = omega (arith, mul-le-mul_right c l)

    place : (a z x : ℕ) → m ≡ a + c → 2 * (1024 + q) * z + x ≡ e → q * (2 ^ 43 * c) + 2 * (1024 + q) * c * z + (x * c + y) ≡ a * 2 ^ 53
    place a z x f h = omega (arith, ap (λ (w : ℕ). c * w) hb, ap (λ (w : ℕ). c * w) h)

    at : q * (2 ^ 43 * c) + 2 * (1024 + q) * c * z + g ≡ (m - c) * 2 ^ 53
    at = place (m - c) z x (omega arith) (div-add-mod e (2 * (1024 + q)))

    least : get_or tab q 0 + rem z - 2 ≤ get_or tab q 0 - 1 + (rem z - 1)
    least = omega arith

pub units_between : (m : ℕ) → 1 ≤ m → let c = 2 ^ top_of m in (x : ℕ) × (units_of m ≡ top_of m * ln2 / 4096 + x) × Between c (m - c) (x - 2) (x + 13)
units_between m lo =
    let c = 2 ^ top_of m in
    let big = big_of m in
    let q = big / 2 ^ 43 - 1024 in
    let p : 1024 + q ≡ big / 2 ^ 43 = omega (arith, big_ge m lo) in (
      get_or tab q 0 + rem (big % 2 ^ 43 / (2 * (1024 + q))),
      rw (units_is m, rule_is big (top_of m), p) (omega arith),
      cell_at m c big (m * 2 ^ 53 % c) q (big % 2 ^ 43) (top_is m lo).0 (omega (arith, (top_is m lo).1)) (div-add-mod (m * 2 ^ 53) c) (mod-lt (m * 2 ^ 53) (pow_pos (top_of m))) (omega arith) (omega arith) (omega (arith, big_lt m lo)),
    )

pub near : (i j m : ℕ) → 1 ≤ m → m ≤ 2 ^ 64 + 1 → let k = top_of m in Near i j k (m - 2 ^ k) (m + 2 ^ k) (units_of m)
near i j m lo hi =
    let k = top_of m in
    let u = units_between m lo in
    let twice : m - 2 ^ k + 2 * 2 ^ k ≡ m + 2 ^ k = omega (arith, (top_is m lo).0) in
    rw twice at (joined i j k (2 ^ k) (m - 2 ^ k) (units_of m) (u.0 - 2) (u.0 + 13) (top-le m 64 (omega arith)) u.2 (omega (arith, u.1)) (omega (arith, u.1)))
