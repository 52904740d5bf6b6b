-- What the sums are: of no terms 0, and with one more, t being a / b, larger by 2 t^(2n+1) / (2n+1); and the upper ones by 9/8 of that.
use Rattle.std.specs.Prelude.{ℕ, zero, suc, ◌+◌, ◌*◌, ◌^◌, ◌≡◌, refl}
use Rattle.std.proofs.Common.{ap, add-one, arith}
use Rattle.std.proofs.Math.Nat.{pow-zero, pow-succ'}
use Rattle.bracket.specs.Series.{pw, num, top, bot}

-- the next term after n is over n a / under n b
abbrev pub over : ℕ → ℕ → ℕ
over n a = 2 * a ^ (2 * n + 1)

abbrev pub under : ℕ → ℕ → ℕ
under n b = (2 * n + 1) * b ^ (2 * n + 1)

odd : (n b : ℕ) → b ^ (2 * n + 1) ≡ b * b ^ (2 * n)
odd n b = rw (add-one (2 * n), pow-succ' b (2 * n)) refl

powers : (n a b : ℕ) → pw n a * b ^ (2 * n) ≡ pw n b * a ^ (2 * n)
unfolding pw
powers zero a b = rw (pow-zero a, pow-zero b) refl
powers (suc n) a b = rw (even a, even b) (omega (arith, ap (λ (x : ℕ). (2 * n + 1) * (a * a) * (b * b) * x) (powers n a b)))
  where
    even : (b : ℕ) → b ^ (2 * suc n) ≡ b * b * b ^ (2 * n)
    even b = let two : 2 * suc n ≡ suc (suc (2 * n)) = omega arith in rw (two, pow-succ' b (suc (2 * n)), pow-succ' b (2 * n)) (omega arith)

pub sum-none : (a b : ℕ) → num 0 a b ≡ 0
unfolding num
sum-none a b = refl

pub sum_more : (n a b : ℕ) → num (suc n) a b * (pw n b * under n b) ≡ (num n a b * under n b + over n a * pw n b) * pw (suc n) b
unfolding num pw
sum_more n a b = rw (odd n a, odd n b) (omega (arith, ap (λ (x : ℕ). 2 * a * (b * b) * (2 * n + 1) * pw n b * x) (powers n a b)))

pub sum-upper : (n a b : ℕ) → top n a b * (pw n b * (8 * under n b)) ≡ (num n a b * (8 * under n b) + 9 * over n a * pw n b) * bot n b
unfolding top bot
sum-upper n a b = rw (odd n a, odd n b) (omega (arith, ap (λ (x : ℕ). 72 * a * b * (2 * n + 1) * pw n b * x) (powers n a b)))
