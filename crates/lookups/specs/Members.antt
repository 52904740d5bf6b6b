-- What a number is looked up as is a table of the list, and one at most.
use mathlib.Core.List.Memᴰ
use mathlib.Core.List.{List, [], ◌∷◌, Memᴰ}
use Rattle.std.specs.Prelude.{ℕ, ◌≤◌, length, take, eqb}
use Rattle.std.proofs.Common.{arith, length-take}
use Rattle.lists.specs.Filter.{filter_of, filter_in}
use Rattle.records.specs.declared.tables.Table.{Table}
use Rattle.lookups.specs.Lookups.{lookup}

-- each of some tables is one of the list
abbrev pub Among : List Table → List Table → Type 0
Among ts some = (t : Table) → Memᴰ t some → Memᴰ t ts

first_in : (xs : List Table) → Among xs (take 1 xs)
first_in [] t m = m
first_in (x ∷ xs) t m = Memᴰ.head (Memᴰ.eq_of_singleton m)

pub lookup-among : (n : ℕ) (ts : List Table) → Among ts (lookup ts n)
unfolding lookup
lookup-among n ts t m = (filter_in (λ u. eqb u.number n) ts t (first_in _ t m)).0

pub lookup-small : (ts : List Table) (n : ℕ) → length (lookup ts n) ≤ 1
unfolding lookup
lookup-small ts n = omega (arith, length-take 1 (filter_of (λ t. eqb t.number n) ts))
