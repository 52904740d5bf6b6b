-- The order of keys, one byte at a time.
use Rattle.std.specs.Prelude.{◌≡◌, ◌⊎◌, cond, List, ℕ, ◌+◌, ◌≤◌, ◌<◌, length, drop, get_or, ltb}
use Rattle.std.proofs.Common.{◌∙◌, arith, add-one, le-ltb}
use Rattle.std.proofs.Math.ListN.{drop_of_length-le}
use Rattle.std.proofs.Math.Seq.{drop-cons}
use Rattle.std.specs.declared.cmp.Ordering.{Ordering}
use Rattle.std.specs.declared.cmp.Ordering.TheVariants.{Less, Equal, Greater}
use Rattle.std.specs.Ordering.{MatchOrdering, nat_cmp}
use Rattle.std.specs.Cmp.{ranks}
use Rattle.keys.specs.Keys.{order_of}

module _ (a b : List ℕ) (i : ℕ) where
  pub order-at : i < length a → i < length b → order_of (drop i a) (drop i b) ≡ cond (ltb (get_or a i 0) (get_or b i 0)) Less (cond (ltb (get_or b i 0) (get_or a i 0)) Greater (order_of (drop (i + 1) a) (drop (i + 1) b)))
  unfolding order_of
  order-at h k = rw (drop-cons a i 0 h, drop-cons b i 0 k, add-one)

  -- equal bytes leave the order to what stands behind them
  pub order-pass : i < length a → i < length b → get_or b i 0 ≤ get_or a i 0 → get_or a i 0 ≤ get_or b i 0 → order_of (drop i a) (drop i b) ≡ order_of (drop (i + 1) a) (drop (i + 1) b)
  order-pass h k x y = order-at h k ∙ simp (le-ltb _ _ x, le-ltb _ _ y)

  pub order-long : i < length a → length b ≤ i → order_of (drop i a) (drop i b) ≡ Greater
  unfolding order_of
  order-long h k = rw (drop-cons a i 0 h, drop_of_length-le b k)

  pub order-short : length a ≤ i → i < length b → order_of (drop i a) (drop i b) ≡ Less
  unfolding order_of
  order-short h k = rw (drop-cons b i 0 k, drop_of_length-le a h)

  pub order-end : length a ≤ i → length b ≤ i → order_of (drop i a) (drop i b) ≡ Equal
  unfolding order_of
  order-end h k = rw (drop_of_length-le a h, drop_of_length-le b k)

  -- where a key ends, the lengths decide
  pub order-lengths : i ≤ length a → i ≤ length b → (length a < i + 1) ⊎ (i + 1 ≤ length a × length b < i + 1) → order_of (drop i a) (drop i b) ≡ nat_cmp (length a) (length b)
  order-lengths h k e = go (nat_cmp (length a) (length b)) (ranks (length a) (length b))
    where
      go : (o : Ordering) → MatchOrdering o (length a < length b) (length a ≡ length b) (length b < length a) → order_of (drop i a) (drop i b) ≡ o
      go Less l = order-short (omega (arith, h, k, e, l)) (omega (arith, h, k, e, l))
      go Equal l = order-end (omega (arith, h, k, e, l)) (omega (arith, h, k, e, l))
      go Greater l = order-long (omega (arith, h, k, e, l)) (omega (arith, h, k, e, l))
