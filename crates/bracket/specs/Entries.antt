-- The table's rule, by one test that antt computes, entry after entry: at i it is 2^44 ln (1 + i / 1024), up to a unit above and two below.
use Rattle.std.specs.Prelude.{ℕ, ◌+◌, ◌-◌, ◌*◌, ◌^◌, Bool, ◌&&◌, T, leb}
use Rattle.arith.specs.Logarithm.{tab}
use Rattle.bracket.specs.Series.{pw, num, top, bot}
use Rattle.arith.specs.Logarithm.Table.{every}

-- between the brackets of 13 terms
unfoldable pub over : ℕ → ℕ → Bool
over i x = leb ((x - 1) * pw 13 (2048 + i)) (num 13 i (2048 + i) * 2 ^ 44)

unfoldable pub under : ℕ → ℕ → Bool
under i x = leb (top 13 i (2048 + i) * 2 ^ 44) ((x + 2) * bot 13 (2048 + i))

pub test : T (every (λ (i x next : ℕ). over i x && under i x) 0 0 tab)
unfolding over under tab pw num top bot
test = tt
