-- The order of keys is a total order: reflexive, antisymmetric, transitive, and of any two keys one is at most the other. Equal means equal.
use Rattle.std.specs.Prelude.{ℕ, ◌≡◌, refl, ◌⊎◌, Bool, true, false, not, List}
use Rattle.std.proofs.Common.{sym, ◌∙◌, ap, inl, inr, true≢false}
use Rattle.std.specs.declared.cmp.Ordering.{Ordering}
use Rattle.std.specs.declared.cmp.Ordering.TheVariants.{Less, Equal, Greater}
use Rattle.std.specs.Ordering.{ordering_reverse}
use Rattle.std.specs.FinMap.{slice_cmp-IsAntisymmetric, nat_cmp-IsAntisymmetric}
use Rattle.std.proofs.lemmas.Cmp.{nat_list_cmp_total}
use Rattle.keys.specs.Keys.{order_of, is_less, key_lt, key_le}
use Rattle.keys.specs.KeyOrder.{order_slices}

-- how the second stands to the first
abbrev pub turned : Ordering → Ordering
turned Less = Greater
turned Equal = Equal
turned Greater = Less

-- the library's laws of its order of slices
turned_is : (o : Ordering) → ordering_reverse o ≡ turned o
turned_is Less = refl
turned_is Equal = refl
turned_is Greater = refl

pub order-turned : (a b : List ℕ) → order_of b a ≡ turned (order_of a b)
order-turned a b =
    sym (order_slices b a) ∙ nat_list_cmp_total.antisymm b a ∙ rw (order_slices a b) (turned_is (order_of a b))

pub order-self : (a : List ℕ) → order_of a a ≡ Equal
order-self a = go (order_of a a) (order-turned a a)
  where
    go : (o : Ordering) → o ≡ turned o → o ≡ Equal
    go Less e = (cc)
    go Equal e = refl
    go Greater e = (cc)

pub order-equal : (a b : List ℕ) → order_of a b ≡ Equal → a ≡ b
order-equal a b e = slice_cmp-IsAntisymmetric nat_cmp-IsAntisymmetric a b (order_slices a b ∙ e)

pub less-trans : (a b c : List ℕ) → order_of a b ≡ Less → order_of b c ≡ Less → order_of a c ≡ Less
less-trans a b c p q = sym (order_slices a c) ∙ nat_list_cmp_total.trans a b c (order_slices a b ∙ p) (order_slices b c ∙ q)

never : {A : Type 0} {o : Ordering} → is_less o ≡ false → o ≡ Less → A
never f e = absurd (true≢false (sym (ap is_less e) ∙ f))

-- ---- the same in terms of "less than" and "at most"

less_of : (o : Ordering) → is_less o ≡ true → o ≡ Less
less_of Less e = refl
less_of Equal e = absurd (true≢false (sym e))
less_of Greater e = absurd (true≢false (sym e))

-- c is not less than b: it is b, or b is less than it
at_least : (b c : List ℕ) → key_lt c b ≡ false → (c ≡ b) ⊎ (order_of b c ≡ Less)
unfolding key_lt
at_least b c e = go (order_of c b) refl
  where
    go : (o : Ordering) → order_of c b ≡ o → (c ≡ b) ⊎ (order_of b c ≡ Less)
    go Less h = never e h
    go Equal h = inl (order-equal c b h)
    go Greater h = inr (order-turned c b ∙ ap turned h)

pub lt-asym : (a b : List ℕ) → key_lt a b ≡ true → key_lt b a ≡ false
unfolding key_lt
lt-asym a b e = ap is_less (order-turned a b ∙ ap turned (less_of (order_of a b) e))

not_true : {t : Bool} → not t ≡ true → t ≡ false
not_true {t = true} e = absurd (true≢false (sym e))
not_true {t = false} e = refl

-- a is less than b, which is at most c
pub lt-weak : (a b c : List ℕ) → key_lt a b ≡ true → key_lt c b ≡ false → key_lt a c ≡ true
unfolding key_lt
lt-weak a b c e f = go (at_least b c f)
  where
    go : (c ≡ b) ⊎ (order_of b c ≡ Less) → key_lt a c ≡ true
    go (inl h) = rw h e
    go (inr h) = ap is_less (less-trans a b c (less_of (order_of a b) e) h)

pub le_refl : (a : List ℕ) → key_le a a ≡ true
unfolding key_le
le_refl a = rw (order-self a)

pub le_antisym : (a b : List ℕ) → key_le a b ≡ true → key_le b a ≡ true → a ≡ b
unfolding key_le
le_antisym a b e f = go (order_of a b) refl
  where
    go : (o : Ordering) → order_of a b ≡ o → a ≡ b
    go Less h = absurd (true≢false (sym f ∙ ap (λ o. not (is_less o)) h))
    go Equal h = order-equal a b h
    go Greater h = absurd (true≢false (sym e ∙ ap (λ o. not (is_less o)) (order-turned a b ∙ ap turned h)))

pub le_trans : (a b c : List ℕ) → key_le a b ≡ true → key_le b c ≡ true → key_le a c ≡ true
unfolding key_le key_lt
le_trans a b c e f = go (key_lt c a) refl
  where
    go : (t : Bool) → key_lt c a ≡ t → key_le a c ≡ true
    go false h = ap not h
    go true h = absurd (true≢false (sym (lt-weak c a b h (not_true e)) ∙ not_true f))

-- of any two keys one is at most the other
pub le_total : (a b : List ℕ) → (key_le a b ≡ true) ⊎ (key_le b a ≡ true)
unfolding key_le
le_total a b = go (order_of a b) refl
  where
    go : (o : Ordering) → order_of a b ≡ o → (not (is_less (order_of b a)) ≡ true) ⊎ (not (is_less (order_of a b)) ≡ true)
    go Less h = inl (ap (λ o. not (is_less o)) (order-turned a b ∙ ap turned h))
    go Equal h = inr (ap (λ o. not (is_less o)) h)
    go Greater h = inr (ap (λ o. not (is_less o)) h)
