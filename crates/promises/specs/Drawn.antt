-- Which tables a list of numbers names: to each number the first table that has it, and no table else.
use Rattle.std.specs.Prelude.{ℕ, ◌≡◌, List, [], ◌∷◌, ◌++◌}
use Rattle.records.specs.declared.tables.Table.{Table}

-- none of some tables has a number
abbrev pub Lacks : ℕ → List Table → Type 0
Lacks n [] = Unit {0}
Lacks n (t ∷ ts) = (¬ (t.number ≡ n)) × Lacks n ts

-- a table of the list has a number, and is the first such
pub record FirstWith (ts : List Table) (n : ℕ) (t : Table) : Type 0 where
  pub before : List Table
  pub after : List Table
  pub split : ts ≡ before ++ t ∷ after
  pub has : t.number ≡ n
  pub first : Lacks n before

-- number by number: one table, or none if no table has it
pub data Named (ts : List Table) : List ℕ → List Table → Type 0 where
  nothing : Named ts [] []
  one : {n : ℕ} {ns : List ℕ} {t : Table} {found : List Table} → FirstWith ts n t → Named ts ns found → Named ts (n ∷ ns) (t ∷ found)
  none : {n : ℕ} {ns : List ℕ} {found : List Table} → Lacks n ts → Named ts ns found → Named ts (n ∷ ns) found
