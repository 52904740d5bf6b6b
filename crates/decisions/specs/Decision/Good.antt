-- What makes words a decision, test by test.
use Rattle.std.specs.Prelude.{◌≡◌, refl, ℕ, ◌-◌, ◌^◌, ◌≤◌, Bool, true, false, cond, ◌&&◌, List, length, get_or, leb, ltb, eqb}
use Rattle.std.proofs.Common.{arith, ltb-true, leb-true, eqb-true}
use Rattle.lists.specs.Tests.{both}
use Rattle.decisions.specs.Decision.{decision_width, chosen_good, is_decision}

pub record Good (ws : List ℕ) : Type 0 where
  pub long : length ws ≡ decision_width
  pub dominant : get_or ws 4 0 ≤ 3
  pub tier : get_or ws 5 0 ≤ 3
  pub kind : chosen_good (get_or ws 7 0) (get_or ws 8 0) (get_or ws 9 0) ≡ true

pub good : (ws : List ℕ) → is_decision ws ≡ true → Good ws
unfolding is_decision
good ws e =
    let l = both _ _ e in
    let d = both _ _ l.1 in
    let t = both _ _ d.1 in
    record { long = eqb-true _ _ l.0; dominant = leb-true _ _ d.0; tier = leb-true _ _ t.0; kind = t.1 }

pub kind-small : (k l n : ℕ) → chosen_good k l n ≡ true → (k ≤ 3) × (l ≤ 2 ^ 32 - 1)
unfolding chosen_good
kind-small k l n e = by _ _ _ refl refl refl e
  where
    by : (a b c : Bool) → ltb k 2 ≡ a → eqb k 2 ≡ b → eqb k 3 ≡ c
        → cond a (eqb l 0 && eqb n 0) (cond b (leb l (2 ^ 32 - 1)) (cond c (leb l (2 ^ 32 - 1) && eqb n 0) false)) ≡ true
        → (k ≤ 3) × (l ≤ 2 ^ 32 - 1)
    by true b c p q r e = omega (arith, ltb-true k 2 p, eqb-true l 0 (both _ _ e).0)
    by false true c p q r e = omega (arith, eqb-true k 2 q, leb-true l (2 ^ 32 - 1) e)
    by false false true p q r e = omega (arith, eqb-true k 3 r, leb-true l (2 ^ 32 - 1) (both _ _ e).0)
    by false false false p q r e = let z : ◌≡◌ {A = ℕ} 0 1 = cc in omega arith
