-- Where no number comes twice, each table is the one that is found under its number.
use Rattle.std.specs.Prelude.{◌≡◌, refl, false, ◌≤◌, length, take}
use Rattle.std.proofs.Common.{sym, ap, arith, ltb-false, eq-eqb}
use mathlib.Core.List.Memᴰ
use mathlib.Core.List.{List, [], ◌∷◌, Memᴰ}
use Rattle.lists.specs.Any.{any-no}
use Rattle.lists.specs.Filter.{filter_of, filter-has}
use Rattle.records.specs.declared.tables.Table.{Table}
use Rattle.number_order.specs.Numbers.{has_number, repeats}
use Rattle.lookups.specs.Lookups.{lookup}

alone : (xs : List Table) (t : Table) → length xs ≤ 1 → Memᴰ t xs → take 1 xs ≡ t ∷ []
alone [] t h m = absurd (Memᴰ.not-nil m)
alone (x ∷ []) t h m = ap (λ (y : Table). y ∷ []) (sym (Memᴰ.eq_of_singleton m))
alone (x ∷ y ∷ xs) t h m = absurd (omega arith)

pub lookup-only : (ts : List Table) → repeats ts ≡ false → (t : Table) → Memᴰ t ts → lookup ts t.number ≡ t ∷ []
unfolding lookup repeats
lookup-only ts e t m =
    alone (filter_of (has_number t.number) ts) t (ltb-false 1 _ (any-no _ ts e t m)) (filter-has (has_number t.number) ts t m (eq-eqb t.number t.number refl))
