-- The smaller and the larger of two keys: the bytes of the part that comes back; it is one of the two, and none of them is below, or above, it.
use Rattle.std.specs.Prelude.{ℕ, ◌≡◌, ◌⊎◌, Bool, cond, List}
use Rattle.std.proofs.Math.Path.{refl, ap}
use Rattle.std.proofs.Common.{inl, inr}
use Rattle.std.proofs.Math.Bool.{true, false, not}
use Rattle.keys.specs.Keys.{key_lt, key_le, lesser_of, greater_of}
use Rattle.keys.specs.Parts.{Bytes, lesser_part, greater_part}
use Rattle.keys.specs.TotalOrder.{le_refl, lt-asym}

bytes : (t : Bool) (a b : Bytes) → (cond t b a).now ≡ cond t b.now a.now
bytes true a b = refl
bytes false a b = refl

pub lesser_bytes : (a b : Bytes) → (lesser_part a b).now ≡ lesser_of a.now b.now
unfolding lesser_part lesser_of key_lt
lesser_bytes a b = bytes (key_lt b.now a.now) a b

pub greater_bytes : (a b : Bytes) → (greater_part a b).now ≡ greater_of a.now b.now
unfolding greater_part greater_of key_lt
greater_bytes a b = bytes (key_lt a.now b.now) a b

module _ (a b : List ℕ) where
  either : (t : Bool) → (cond t b a ≡ a) ⊎ (cond t b a ≡ b)
  either true = inr refl
  either false = inl refl

  pub lesser_least : (key_le (lesser_of a b) a ≡ true) × (key_le (lesser_of a b) b ≡ true)
  unfolding lesser_of key_lt key_le
  lesser_least = go (key_lt b a) refl
    where
      go : (t : Bool) → key_lt b a ≡ t → (key_le (cond t b a) a ≡ true) × (key_le (cond t b a) b ≡ true)
      go true e = (ap not (lt-asym b a e), le_refl b)
      go false e = (le_refl a, ap not e)

  pub lesser_one : (lesser_of a b ≡ a) ⊎ (lesser_of a b ≡ b)
  unfolding lesser_of key_lt
  lesser_one = either (key_lt b a)

  pub greater_one : (greater_of a b ≡ a) ⊎ (greater_of a b ≡ b)
  unfolding greater_of key_lt
  greater_one = either (key_lt a b)

  pub greater_most : (key_le a (greater_of a b) ≡ true) × (key_le b (greater_of a b) ≡ true)
  unfolding greater_of key_lt key_le
  greater_most = go (key_lt a b) refl
    where
      go : (t : Bool) → key_lt a b ≡ t → (key_le a (cond t b a) ≡ true) × (key_le b (cond t b a) ≡ true)
      go true e = (ap not (lt-asym a b e), le_refl b)
      go false e = (le_refl a, ap not e)
