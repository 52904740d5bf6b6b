-- What is rounded keeps its sign, and its size does not turn on it.
use Rattle.std.specs.Prelude.{◌≡◌, ℕ, zero, suc, ◌+◌, ◌*◌, ◌^◌, ◌<◌, Bool, true, false, cond, pos, nat_lt, refl, Float}
use Rattle.std.proofs.Common.{sym, subst, arith, lit<}
use Rattle.std.specs.Float.{nan, inf, fin, Format, binary32, binary64}
use Rattle.std.specs.Float.Ieee.{prec, low, emax, round, units, odd, neg, of_int}
use Rattle.std.specs.Float.Ieee.Exact.{HasValue, odd_sign}
use Rattle.std.specs.Float.Ieee.Fits.{round_is}
use Rattle.std.specs.Float.Ieee.Scale.{round_same}
use Rattle.arith.specs.Whole.{float_of}

-- the sign s, on a number or an infinity
abbrev pub Signed : Bool → Float → Type 0
Signed s nan = ⊥
Signed s (inf t) = t ≡ s
Signed s (fin t m e) = t ≡ s

value_sign : (x : Float) (s : Bool) (a c : ℕ) → HasValue x s a c → Signed s x
value_sign (fin t m e) s a c v = v.0
value_sign nan s a c v = elim v [ ]
value_sign (inf _) s a c v = elim v [ ]

units_sign : (f : Format) (s : Bool) (q k : ℕ) → Signed s (units f s q k)
unfolding units
units_sign f s q k = go (nat_lt (q * 2 ^ k) (2 ^ (low f + suc (emax f))))
  where
    go : (b : Bool) → Signed s (cond b (odd (suc (prec f)) s q k (low f)) (inf s))
    go true = value_sign (odd (suc (prec f)) s q k (low f)) s (q * 2 ^ k) (2 ^ low f) (odd_sign (suc (prec f)) s q k (low f))
    go false = refl

pub round_sign : (f : Format) (s : Bool) (a c : ℕ) → Signed s (round f s a c)
round_sign f s a c = subst (Signed s) (sym (round_is f s a c)) (units_sign f s _ _)

-- with the other sign the same size is rounded
odd-turned : (d q k l : ℕ) → odd d true q k l ≡ neg (odd d false q k l)
unfolding odd neg
odd-turned d zero k l = refl
odd-turned d (suc q) k l = refl

units_turned : (f : Format) (q k : ℕ) → units f true q k ≡ neg (units f false q k)
unfolding units neg
units_turned f q k = go (nat_lt (q * 2 ^ k) (2 ^ (low f + suc (emax f))))
  where
    go : (b : Bool) → cond b (odd (suc (prec f)) true q k (low f)) (inf true) ≡ neg (cond b (odd (suc (prec f)) false q k (low f)) (inf false))
    go true = odd-turned (suc (prec f)) q k (low f)
    go false = refl

pub round-turned : (f : Format) (a c : ℕ) → round f true a c ≡ neg (round f false a c)
round-turned f a c = rw (round_is f true a c, round_is f false a c) (units_turned f _ _)

-- a zero keeps it too
pub round-zero : (f : Format) (s : Bool) (c : ℕ) → 0 < c → round f s 0 c ≡ fin s 0 (pos 0)
unfolding round units odd
round-zero binary32 s c C = round_same binary32 s 0 c 0 1 C (lit< tt) (omega arith)
round-zero binary64 s c C = round_same binary64 s 0 c 0 1 C (lit< tt) (omega arith)

pub float_sign : (n : ℕ) → Signed false (float_of n)
unfolding of_int
float_sign n = round_sign binary64 false n 1
