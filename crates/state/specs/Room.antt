-- A sum passes a top exactly if its second part passes the room that the first leaves, and a counter is full exactly at the largest u64. Assumes nothing.
use Rattle.std.specs.Prelude.{◌≡◌, refl, Bool, true, false, ℕ, ◌+◌, ◌-◌, ◌^◌, ◌≤◌, ◌<◌, ltb, eqb}
use Rattle.std.proofs.Common.{sym, ◌∙◌, arith, ltb-false, ltb-true, eqb-true, lt-ltb, le-ltb}
use Rattle.std.proofs.lemmas.Bool.{eqb-false}
use Rattle.state.specs.State.{full}

pub room_of : (n : ℕ) → full n ≡ false → n < 2 ^ 64 - 1
room_of n e = omega (arith, ltb-false (2 ^ 64 - 1) (n + 1) e)

pub room : (top a b : ℕ) → a ≤ top → ltb (top - a) b ≡ ltb top (a + b)
room top a b h = go (ltb (top - a) b) refl
  where
    go : (t : Bool) → ltb (top - a) b ≡ t → ltb (top - a) b ≡ ltb top (a + b)
    go true e = e ∙ sym (lt-ltb top (a + b) (omega (arith, ltb-true (top - a) b e)))
    go false e = e ∙ sym (le-ltb top (a + b) (omega (arith, ltb-false (top - a) b e)))

-- a sum less a third, part by part
pub sub_parts : (a b c : ℕ) → a - c + (b - (c - a)) ≡ a + b - c
sub_parts a b c = omega arith

pub full_is : (n : ℕ) → n < 2 ^ 64 → full n ≡ eqb n (2 ^ 64 - 1)
full_is n h = go (eqb n (2 ^ 64 - 1)) refl
  where
    go : (t : Bool) → eqb n (2 ^ 64 - 1) ≡ t → full n ≡ eqb n (2 ^ 64 - 1)
    go true e = lt-ltb (2 ^ 64 - 1) (n + 1) (omega (arith, eqb-true n (2 ^ 64 - 1) e)) ∙ sym e
    go false e = le-ltb (2 ^ 64 - 1) (n + 1) (omega (arith, eqb-false n (2 ^ 64 - 1) e)) ∙ sym e
