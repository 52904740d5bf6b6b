-- 02 (iii): of a generation or estimation that is accepted, numbers at different places differ, and each table is the one that is found under its number.
use mathlib.Core.Path.{◌≡◌}
use mathlib.Core.List.{[], ◌∷◌, Memᴰ}
use Prim.Native.Nat.{ℕ}
use Rattle.records.specs.declared.tables.Table.{Table}
use Rattle.records.specs.Tables.{tables_of}
use Rattle.number_order.specs.Repeats.{Different, repeats-false}
use Rattle.lookups.specs.Lookups.{lookup}
use Rattle.lookups.specs.Only.{lookup-only}
use Rattle.candidates.specs.Generate.{GenerateInput, generate_fault}
use Rattle.candidates.specs.Accepted as generation
use Rattle.estimate_faults.specs.Faults.{EstimateInput, estimate_fault}
use Rattle.estimates.specs.Estimate.Accepted as estimation

pub generated-differ : (q : GenerateInput) (room₁ room₂ : ℕ) → generate_fault q room₁ room₂ ≡ 0 → Different (tables_of q.tables)
generated-differ q room₁ room₂ z = repeats-false (tables_of q.tables) (generation.accepted q room₁ room₂ z).different

module _ (q : EstimateInput) (room : ℕ) (z : estimate_fault q room ≡ 0) where
  pub estimated-differ : Different (tables_of q.tables)
  estimated-differ = repeats-false (tables_of q.tables) (estimation.accepted q room z).different

  pub found-alone : (t : Table) → Memᴰ t (tables_of q.tables) → lookup (tables_of q.tables) t.number ≡ t ∷ []
  found-alone = lookup-only (tables_of q.tables) (estimation.accepted q room z).different
