-- `any` over the places of a list, whose closure tests the one at a place, answers whether the test holds of one of the list.
use Rattle.std.specs.Prelude.{ℕ, zero, suc, ◌+◌, ◌≤◌, ◌≡◌, Bool, length, drop, get_or, Option}
use Rattle.std.proofs.Common.{add-one, arith, ◌∙◌, refl, sym, true, false, drop_of_length-le, drop-cons}
use Rattle.std.proofs.iter.Yields.{nat_range_steps}
use Rattle.std.proofs.lemmas.Iterator.{YieldsList-from_range}
use Rattle.std.proofs.lemmas.Iterator.Search.{any_from_yields_List}
use Rattle.std.specs.Fn.{Called}
use Rattle.std.specs.Iterator.{YieldsThen}
use Rattle.std.specs.List.{FoldsTo, list_any, range_with_len}
use Rattle.std.specs.Option.{MatchOption}
use denote.Param.Members.{Mut}
use mathlib.Core.List.{List, [], ◌∷◌}
use Rattle.lists.specs.Any.{any_of}
use Rattle.std.specs.declared.ops.Range.{Range}

module _ {X : Type 0} (p : X → Bool) (xs : List X) (d : X) where
  from : (a n : ℕ) → a + n ≡ length xs → list_any (λ i. p (get_or xs i d)) (range_with_len a n) ≡ any_of p (drop a xs)
  unfolding any_of
  from a zero h = rw (drop_of_length-le xs (let h2 : length xs ≤ a = omega arith in h2))
  from a (suc n) h = rw (drop-cons xs a d (omega arith), from (a + 1) n (omega arith), add-one)

  pub any_place : {F : Type 0} {g : Mut F (ℕ × Unit {0}) Bool} {s : Range ℕ} (n : ℕ) (u : Range ℕ) (f : F) (r : Bool) → s ≡ record { start = 0; end = n } → n ≡ length xs
      → (ys : List ℕ) × (o : Option ℕ) × (j : F) × YieldsThen nat_range_steps s ys o u × FoldsTo (λ q x t. Called g q (x, tt) false t) f ys j × MatchOption o (r ≡ false) (λ x. (r ≡ true) × ((h : F) × Called g j (x, tt) true h))
      → ((x : ℕ) (b : Bool) (q : F) → Called g f (x, tt) b q → (q ≡ f) × (b ≡ p (get_or xs x d))) → r ≡ any_of p xs
  any_place n u f r e h ran k =
      any_from_yields_List (λ i. p (get_or xs i d)) u f r ran (YieldsList-from_range 0 n n e (omega arith)) k ∙ from 0 n (omega arith)
