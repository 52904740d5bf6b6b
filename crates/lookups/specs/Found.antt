-- The search by halves in the order by number finds the first table with a number, and none exactly if there is none.
use Rattle.std.specs.Prelude.{◌≡◌, ◌⊎◌, Bool, false, List, [], ◌∷◌, map, ℕ, suc, ◌+◌, ◌<◌, ltb, get_or, take, drop}
use Rattle.std.proofs.Common.{sym, ◌∙◌, inl, inr, arith, get_or-take, get_or-drop, length-take-le}
use Rattle.std.proofs.Math.Path.{ap}
use Rattle.std.proofs.Math.ListN.{length, length-drop}
use Rattle.std.proofs.Math.Seq.{split_at}
use borrow.Author.Tests.{ltb-true, ltb-false, lt-ltb, eq-eqb, ne_eqb}
use Rattle.lists.specs.Filter.{filter_of, filter-append, filter_nowhere}
use Rattle.lists.specs.Halving.{Falling, Halving, halving_end}
use Rattle.records.specs.declared.tables.Table.{Table}
use Rattle.records.specs.Tables.{table_at}
use Rattle.number_order.specs.Numbers.{has_number, number_at, by_number}
use Rattle.number_order.specs.Ordered.{numbers-rise, number-tables}
use Rattle.lookups.specs.Lookups.{lookup}

-- the table at a place has a smaller number
abbrev pub below : List Table → ℕ → ℕ → Bool
below ts n p = ltb (number_at ts p) n

module _ (ts : List Table) (n : ℕ) where
  pub below-falls : Falling (below ts n) (by_number ts)
  below-falls i j h k e = lt-ltb _ n (omega (arith, numbers-rise ts i j h k, ltb-true (number_at ts (get_or (by_number ts) j 0)) n e))

  by_order : lookup ts n ≡ take 1 (map (table_at ts) (filter_of (λ p. has_number n (table_at ts p)) (by_number ts)))
  unfolding lookup
  by_order = ap (take 1) (sym (number-tables ts n))

  pub lookup_empty : length (by_number ts) ≡ 0 → lookup ts n ≡ []
  lookup_empty e = by_order ∙ rw (filter_nowhere (λ p. has_number n (table_at ts p)) 0 (by_number ts) (λ i h. absurd (omega arith)))

  module _ (r : ℕ) (s : Halving (below ts n) (by_number ts) r 1) where
    none_before : filter_of (λ p. has_number n (table_at ts p)) (take r (by_number ts)) ≡ []
    none_before = filter_nowhere (λ p. has_number n (table_at ts p)) 0 (take r (by_number ts)) other
      where
        other : (i : ℕ) → i < length (take r (by_number ts)) → has_number n (table_at ts (get_or (take r (by_number ts)) i 0)) ≡ false
        other i h =
            let k : i < r = omega (arith, length-take-le r (by_number ts) (omega (arith, s.within))) in
            rw (get_or-take r (by_number ts) i 0 k) (ne_eqb _ n (λ e. omega (arith, e, ltb-true (number_at ts (get_or (by_number ts) i 0)) n (halving_end s (omega arith) i k))))

    -- what is kept of the order is kept from r on
    from-here : filter_of (λ p. has_number n (table_at ts p)) (by_number ts) ≡ filter_of (λ p. has_number n (table_at ts p)) (get_or (by_number ts) r 0 ∷ drop (suc r) (by_number ts))
    from-here =
        ap (filter_of (λ p. has_number n (table_at ts p))) (split_at (by_number ts) r 0 s.within)
        ∙ filter-append (λ p. has_number n (table_at ts p)) (take r (by_number ts)) (get_or (by_number ts) r 0 ∷ drop (suc r) (by_number ts))
        ∙ rw none_before

    pub lookup-found : number_at ts (get_or (by_number ts) r 0) ≡ n → lookup ts n ≡ table_at ts (get_or (by_number ts) r 0) ∷ []
    unfolding filter_of
    lookup-found e = by_order ∙ rw (from-here, eq-eqb _ n e)

    pub lookup_missing : ¬ (number_at ts (get_or (by_number ts) r 0) ≡ n) → lookup ts n ≡ []
    unfolding filter_of
    lookup_missing d = by_order ∙ rw (from-here, ne_eqb _ n d, none_after)
      where
        later : (last : (r + 1 ≡ length (by_number ts)) ⊎ (below ts n (get_or (by_number ts) r 0) ≡ false)) (i : ℕ) → i < length (drop (suc r) (by_number ts)) → number_at ts (get_or (by_number ts) (suc r + i) 0) ≡ n → ⊥
        later (inl f) i h e = absurd (omega (arith, length-drop (suc r) (by_number ts)))
        later (inr f) i h e =
            d (omega (arith, e, ltb-false (number_at ts (get_or (by_number ts) r 0)) n f, numbers-rise ts r (suc r + i) (omega arith) (omega (arith, length-drop (suc r) (by_number ts)))))

        none_after : filter_of (λ p. has_number n (table_at ts p)) (drop (suc r) (by_number ts)) ≡ []
        none_after = filter_nowhere (λ p. has_number n (table_at ts p)) 0 (drop (suc r) (by_number ts)) (λ i h. rw (get_or-drop (suc r) (by_number ts) i 0) (ne_eqb _ n (later s.ends i h)))
