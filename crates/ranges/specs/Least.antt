-- What a range's ends are: the least first key and the greatest last key.
use Rattle.std.specs.Prelude.{ℕ, ◌≡◌, ◌⊎◌, true}
use Rattle.std.proofs.Math.Path.{refl}
use Rattle.std.proofs.Common.{◌∙◌}
use Rattle.std.proofs.Math.Logic.{inl, inr, ⊎_elim}
use mathlib.Core.List.Memᴰ
use mathlib.Core.List.{List, [], ◌∷◌, Memᴰ}
use Rattle.keys.specs.Keys.{key_le, lesser_of, greater_of}
use Rattle.keys.specs.TotalOrder.{le_refl, le_antisym, le_trans}
use Rattle.keys.specs.Lesser.{lesser_least, greater_most, lesser_one, greater_one}
use Rattle.records.specs.declared.tables.Table.{Table}
use Rattle.records.specs.Tables.{first_at, last_at}
use Rattle.ranges.specs.Ranges.{end_from, end_of, low_of, high_of}

-- of two keys `pick` takes one, and that one stands to both as `stands` says, which is an order
pub record Picks (pick : List ℕ → List ℕ → List ℕ) (stands : List ℕ → List ℕ → Type 0) : Type 0 where
  pub one : (a b : List ℕ) → (pick a b ≡ a) ⊎ (pick a b ≡ b)
  pub self : (a : List ℕ) → stands a a
  pub first : (a b : List ℕ) → stands (pick a b) a
  pub second : (a b : List ℕ) → stands (pick a b) b
  pub through : (a b c : List ℕ) → stands a b → stands b c → stands a c
  pub both : (a b : List ℕ) → stands a b → stands b a → a ≡ b

-- an end is the key of one of the places, and stands so to the key of each
pub record IsEnd (stands : List ℕ → List ℕ → Type 0) (key : ℕ → List ℕ) (ps : List ℕ) (end : List ℕ) : Type 0 where
  pub place : ℕ
  pub among : Memᴰ place ps
  pub its : end ≡ key place
  pub each : (p : ℕ) → Memᴰ p ps → stands end (key p)

module _ (pick : List ℕ → List ℕ → List ℕ) (stands : List ℕ → List ℕ → Type 0) (o : Picks pick stands) (key : ℕ → List ℕ) where
  -- the best so far, or the key of a place, that stands so to all of them
  record From (best : List ℕ) (ps : List ℕ) (e : List ℕ) : Type 0 where
    its : (e ≡ best) ⊎ ((p : ℕ) × Memᴰ p ps × (e ≡ key p))
    before : stands e best
    each : (p : ℕ) → Memᴰ p ps → stands e (key p)

  none : {A : Type 0} {p : ℕ} → Memᴰ p [] → A
  none m = absurd (Memᴰ.not-nil m)

  from : (best : List ℕ) (ps : List ℕ) → From best ps (end_from pick key best ps)
  unfolding end_from
  from best [] = record { its = inl refl; before = o.self best; each = λ p m. none m }
  from best (p ∷ ps) = let r = from (pick best (key p)) ps in
      record {
        its = next (o.one best (key p)) r.its;
        before = o.through _ _ _ r.before (o.first best (key p));
        each = λ q m. ⊎_elim (λ h. rw h (o.through _ _ _ r.before (o.second best (key p)))) (r.each q) (Memᴰ.cases_cons m);
      }
    where
      next : {e : List ℕ} → (pick best (key p) ≡ best) ⊎ (pick best (key p) ≡ key p) → (e ≡ pick best (key p)) ⊎ ((q : ℕ) × Memᴰ q ps × (e ≡ key q)) → (e ≡ best) ⊎ ((q : ℕ) × Memᴰ q (p ∷ ps) × (e ≡ key q))
      next (inl h) (inl f) = inl (f ∙ h)
      next (inr h) (inl f) = inr (p, Memᴰ.head refl, f ∙ h)
      next h (inr f) = inr (f.0, Memᴰ.tail f.1, f.2)

  end_is : (p : ℕ) (ps : List ℕ) → IsEnd stands key (p ∷ ps) (end_of pick key (p ∷ ps))
  unfolding end_of
  end_is p ps =
      let r = from (key p) ps in
      let i = place r.its in
      record { place = i.0; among = i.1; its = i.2; each = λ q m. ⊎_elim (λ h. rw h r.before) (r.each q) (Memᴰ.cases_cons m) }
    where
      place : {e : List ℕ} → (e ≡ key p) ⊎ ((q : ℕ) × Memᴰ q ps × (e ≡ key q)) → (q : ℕ) × Memᴰ q (p ∷ ps) × (e ≡ key q)
      place (inl f) = (p, Memᴰ.head refl, f)
      place (inr f) = (f.0, Memᴰ.tail f.1, f.2)

abbrev pub AtMost : List ℕ → List ℕ → Type 0
AtMost a b = key_le a b ≡ true

abbrev pub AtLeast : List ℕ → List ℕ → Type 0
AtLeast a b = key_le b a ≡ true

pub lesser_picks : Picks lesser_of AtMost
lesser_picks =
    record { one = lesser_one; self = le_refl; first = λ a b. (lesser_least a b).0; second = λ a b. (lesser_least a b).1; through = le_trans; both = le_antisym }

pub greater_picks : Picks greater_of AtLeast
greater_picks =
    record { one = greater_one; self = le_refl; first = λ a b. (greater_most a b).0; second = λ a b. (greater_most a b).1; through = λ a b c f g. le_trans c b a g f; both = λ a b f g. le_antisym a b g f }

module _ (ks : List ℕ) (ts : List Table) (p : ℕ) (ps : List ℕ) where
  pub low-least : IsEnd AtMost (first_at ks ts) (p ∷ ps) (low_of ks ts (p ∷ ps))
  low-least = end_is lesser_of AtMost lesser_picks (first_at ks ts) p ps

  pub high_greatest : IsEnd AtLeast (last_at ks ts) (p ∷ ps) (high_of ks ts (p ∷ ps))
  high_greatest = end_is greater_of AtLeast greater_picks (last_at ks ts) p ps
