-- Words written to a lent buffer from a place on; those that would stand past its end are lost.
use Rattle.std.specs.Prelude.{◌≡◌, refl, Bool, true, false, List, [], ◌∷◌, ◌++◌, ℕ, suc, ◌+◌, ◌-◌, ◌≤◌, ◌<◌, min, ltb, length, take, drop, get_or, set}
use Rattle.std.proofs.Common.{sym, ◌∙◌, ap, append-nil, add-one, zero-add, add-zero, add-suc, suc-add, arith, ltb-true, ltb-false, length-append, length-set, length-drop, drop_of_length-le, drop-cons, take_at, take_all}
use Rattle.std.proofs.lemmas.List.Edits.{sets, sets-eq}
use Rattle.std.proofs.Math.Seq.{set_out, length-sets}

module _ {X : Type 0} where
  pub sets_append : (a b l : List X) (i : ℕ) → sets (sets l i a) (i + length a) b ≡ sets l i (a ++ b)
  sets_append [] b l i = rw add-zero
  sets_append (x ∷ a) b l i = rw (add-suc, ← suc-add) (sets_append a b (set l i x) (suc i))

  -- one word more at the end
  pub sets_snoc : (a : List X) (x : X) (l : List X) (i : ℕ) → set (sets l i a) (i + length a) x ≡ sets l i (a ++ (x ∷ []))
  sets_snoc a x l i = sets_append a (x ∷ []) l i

  pub sets_past : (ws l : List X) (i : ℕ) → length l ≤ i → sets l i ws ≡ l
  sets_past [] l i h = refl
  sets_past (x ∷ ws) l i h = rw (set_out l i x h) (sets_past ws l (suc i) (omega arith))

  pub sets_front : (ws l : List X) → length ws ≤ length l → sets l 0 ws ≡ ws ++ drop (length ws) l
  sets_front ws l h = sets-eq ws l 0 (rw zero-add h) ∙ rw zero-add

  -- a whole buffer
  pub sets_whole : (ws l : List X) → length ws ≡ length l → sets l 0 ws ≡ ws
  sets_whole ws l e = sets_front ws l (omega arith) ∙ rw (drop_of_length-le l {i = length ws} (omega arith), append-nil)

  -- what is lent from i on is the rest
  pub rest_of : (l : List X) (i : ℕ) → take (length l - i) (drop i l) ≡ drop i l
  rest_of l i = take_all (length l - i) (drop i l) (rw length-drop (omega arith))

-- what is left of a part from i on
module _ (l part : List ℕ) (at i : ℕ) where
  pub sets_more : i < length part → sets l (at + i) (drop i part) ≡ sets (set l (at + i) (get_or part i 0)) (at + (i + 1)) (drop (i + 1) part)
  sets_more h = let e : at + (i + 1) ≡ suc (at + i) = omega arith in rw (e, add-one, drop-cons part i 0 h)

  pub sets_end : length part ≤ i → sets l (at + i) (drop i part) ≡ l
  sets_end h = rw (drop_of_length-le part {i = i} h)

-- the first n words of a buffer are `ws`
pub record Fronted (n : ℕ) (new ws : List ℕ) : Type 0 where
  pub within : n ≤ length new
  pub long : n ≡ length (take n new)
  pub taken : take n new ≡ ws

pub fronted : (ws l new : List ℕ) (n : ℕ) → n ≡ length ws → new ≡ sets l 0 ws → length ws ≤ length l → Fronted n new ws
fronted ws l new n e f h =
    let t : take n new ≡ ws = rw (f, sets_front ws l h) (take_at ws (drop (length ws) l) n (sym e)) in
    record { within = omega (arith, ap length f, length-sets l 0 ws); long = e ∙ sym (ap length t); taken = t }

-- `ws` was written to `old` from `at` on; the next word would go to `end`
pub record Filled (old : List ℕ) (at : ℕ) (ws new : List ℕ) (end : ℕ) : Type 0 where
  pub ends : end ≡ at + length ws
  pub stands : new ≡ sets old at ws

pub filled-append : (old : List ℕ) (at : ℕ) (a mid : List ℕ) (m : ℕ) (b new : List ℕ) (end : ℕ) → Filled old at a mid m → Filled mid m b new end → Filled old at (a ++ b) new end
filled-append old at a mid m b new end f g =
    record {
      ends = omega (arith, f.ends, g.ends, length-append a b);
      stands = g.stands ∙ rw (f.stands, f.ends) (sets_append a b old at);
    }

-- one word more
pub filled_put : (old : List ℕ) (at : ℕ) (ws mid new : List ℕ) (n v : ℕ) → Filled old at ws mid (at + n) → new ≡ set mid (at + n) v → Filled old at (ws ++ (v ∷ [])) new (at + (n + 1))
filled_put old at ws mid new n v f e =
    record {
      ends = omega (arith, f.ends, length-append ws (v ∷ []));
      stands = e ∙ rw (f.stands, f.ends) (sets_snoc ws v old at);
    }

-- past the end every place is as good as the end
pub filled-clip : (old : List ℕ) (at from : ℕ) (ws new : List ℕ) (n : ℕ) → from ≡ min at (length old) → Filled old from ws new (from + n) → Filled old at ws new (at + n)
filled-clip old at from ws new n e f =
    record { ends = omega (arith, f.ends); stands = f.stands ∙ clip (ltb at (length old)) refl }
  where
    clip : (b : Bool) → ltb at (length old) ≡ b → sets old from ws ≡ sets old at ws
    clip true t =
        let k : from ≡ at = omega (arith, ltb-true at (length old) t) in
        rw k
    clip false t =
        sets_past ws old from (omega (arith, ltb-false at (length old) t)) ∙ sym (sets_past ws old at (ltb-false at (length old) t))

-- `whole` is being written to `old` from `at` on: `out` is what stands now, `rest` what is left, and the next word goes to n
pub record Filling (old : List ℕ) (at : ℕ) (whole out : List ℕ) (n : ℕ) (rest : List ℕ) : Type 0 where
  pub same : length out ≡ length old
  pub count : n + length rest ≡ at + length whole
  pub filled : sets out n rest ≡ sets old at whole

pub fill_start : (old : List ℕ) (at : ℕ) (whole : List ℕ) → Filling old at whole old at whole
fill_start old at whole = record { same = refl; count = refl; filled = refl }

module _ (old : List ℕ) (at : ℕ) (whole out : List ℕ) (n : ℕ) where
  pub fill_put : (v : ℕ) (rest : List ℕ) → Filling old at whole out n (v ∷ rest) → Filling old at whole (set out n v) (n + 1) rest
  fill_put v rest f =
      record { same = length-set out n v ∙ f.same; count = omega (arith, f.count); filled = rw add-one f.filled }

  -- several words at once
  pub fill-part : (a rest new : List ℕ) (m : ℕ) → Filling old at whole out n (a ++ rest) → Filled out n a new m → Filling old at whole new m rest
  fill-part a rest new m f g =
      record {
        same = ap length g.stands ∙ length-sets out n a ∙ f.same;
        count = omega (arith, f.count, g.ends, length-append a rest);
        filled = rw (g.stands, g.ends) (sets_append a rest out n ∙ f.filled);
      }

  pub fill_end : Filling old at whole out n [] → Filled old at whole out n
  fill_end f = record { ends = omega (arith, f.count); stands = f.filled }
