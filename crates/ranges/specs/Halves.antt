-- One end of a range by halves: the least of two parts' leasts is the least. Both ends are told by these laws.
use Rattle.std.specs.Prelude.{ℕ, ◌-◌, ◌<◌, ◌≡◌, ◌⊎◌, length, take, drop, get_or}
use Rattle.std.proofs.Common.{arith, sym, ◌∙◌, inl, inr, take-append-drop, length-drop, length-take-le, take_all}
use Rattle.std.proofs.Math.Path.{refl, ap}
use mathlib.Core.List.{List, [], ◌∷◌, ◌++◌}
use Rattle.ranges.specs.Ranges.{end_from, end_of}
use Rattle.ranges.specs.Least.{Picks}

module _ {pick : List ℕ → List ℕ → List ℕ} {stands : List ℕ → List ℕ → Type 0} (o : Picks pick stands) where
  -- one of three keys that stands so to all three
  record OfThree (a b c e : List ℕ) : Type 0 where
    its : (e ≡ a) ⊎ ((e ≡ b) ⊎ (e ≡ c))
    to-a : stands e a
    to-b : stands e b
    to-c : stands e c

  of_three : {a b c e f : List ℕ} → OfThree a b c e → OfThree a b c f → e ≡ f
  of_three r s = o.both _ _ (to s.its r) (to r.its s)
    where
      to : {a b c x y : List ℕ} → (x ≡ a) ⊎ ((x ≡ b) ⊎ (x ≡ c)) → OfThree a b c y → stands y x
      to (inl h) t = rw h t.to-a
      to (inr (inl h)) t = rw h t.to-b
      to (inr (inr h)) t = rw h t.to-c

  pick_assoc : (a b c : List ℕ) → pick (pick a b) c ≡ pick a (pick b c)
  pick_assoc a b c =
      of_three
      (record {
        its = left (o.one (pick a b) c) (o.one a b);
        to-a = o.through _ _ _ (o.first (pick a b) c) (o.first a b);
        to-b = o.through _ _ _ (o.first (pick a b) c) (o.second a b);
        to-c = o.second (pick a b) c;
      })
      (record {
        its = right (o.one a (pick b c)) (o.one b c);
        to-a = o.first a (pick b c);
        to-b = o.through _ _ _ (o.second a (pick b c)) (o.first b c);
        to-c = o.through _ _ _ (o.second a (pick b c)) (o.second b c);
      })
    where
      left : {e d : List ℕ} → (e ≡ d) ⊎ (e ≡ c) → (d ≡ a) ⊎ (d ≡ b) → (e ≡ a) ⊎ ((e ≡ b) ⊎ (e ≡ c))
      left (inl h) (inl k) = inl (h ∙ k)
      left (inl h) (inr k) = inr (inl (h ∙ k))
      left (inr h) k = inr (inr h)

      right : {e d : List ℕ} → (e ≡ a) ⊎ (e ≡ d) → (d ≡ b) ⊎ (d ≡ c) → (e ≡ a) ⊎ ((e ≡ b) ⊎ (e ≡ c))
      right (inl h) k = inl h
      right (inr h) (inl k) = inr (inl (h ∙ k))
      right (inr h) (inr k) = inr (inr (h ∙ k))

  module _ (key : ℕ → List ℕ) where
    from_pick : (a b : List ℕ) (ps : List ℕ) → end_from pick key (pick a b) ps ≡ pick a (end_from pick key b ps)
    unfolding end_from
    from_pick a b [] = refl
    from_pick a b (p ∷ ps) = ap (λ (r : List ℕ). end_from pick key r ps) (pick_assoc a b (key p)) ∙ from_pick a (pick b (key p)) ps

    from_parts : (best : List ℕ) (ps : List ℕ) (q : ℕ) (qs : List ℕ) → end_from pick key best (ps ++ q ∷ qs) ≡ pick (end_from pick key best ps) (end_from pick key (key q) qs)
    unfolding end_from
    from_parts best [] q qs = from_pick best (key q) qs
    from_parts best (p ∷ ps) q qs = from_parts (pick best (key p)) ps q qs

    pub end-parts : (ps qs : List ℕ) → 0 < length ps → 0 < length qs → end_of pick key (ps ++ qs) ≡ pick (end_of pick key ps) (end_of pick key qs)
    unfolding end_of
    end-parts [] qs h k = absurd (omega arith)
    end-parts (p ∷ ps) [] h k = absurd (omega arith)
    end-parts (p ∷ ps) (q ∷ qs) h k = from_parts (key p) ps q qs

    -- a and b are the ends of the first h places and of the rest, as parts of a slice
    pub end_halves : (ps a b : List ℕ) (h : ℕ) → 0 < h → h < length ps → a ≡ end_of pick key (take h ps) → b ≡ end_of pick key (take (length ps - h) (drop h ps)) → pick a b ≡ end_of pick key ps
    end_halves ps a b h k l e f =
        let rest : take (length ps - h) (drop h ps) ≡ drop h ps = take_all (length ps - h) (drop h ps) (omega (arith, length-drop h ps)) in
        rw (e, f, rest) (sym (end-parts (take h ps) (drop h ps) (omega (arith, length-take-le h ps (omega arith))) (omega (arith, length-drop h ps))))
        ∙ ap (end_of pick key) (take-append-drop h ps)

module _ (pick : List ℕ → List ℕ → List ℕ) (key : ℕ → List ℕ) where
  pub end_none : (ps : List ℕ) → length ps ≡ 0 → [] ≡ end_of pick key ps
  unfolding end_of
  end_none [] e = refl
  end_none (p ∷ ps) e = absurd (omega arith)

  pub end-one : (ps : List ℕ) → length ps ≡ 1 → key (get_or ps 0 0) ≡ end_of pick key ps
  unfolding end_of end_from
  end-one [] e = absurd (omega arith)
  end-one (p ∷ []) e = refl
  end-one (p ∷ q ∷ ps) e = absurd (omega arith)
