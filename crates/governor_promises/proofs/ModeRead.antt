-- The mode that accepted observations lead to from a fresh governor is the one that the list of them reads as.
use Prim.Native.Nat.{ℕ, suc, ◌+◌, ◌≤◌, ◌<◌}
use native.Mathlib.Omega.{arith}
use mathlib.Core.Path.{◌≡◌, refl, sym, ap, subst, ◌∙◌}
use mathlib.Core.Logic.{◌↔◌}
use mathlib.Core.List.{List, [], ◌∷◌, ◌++◌, append_assoc, append-nil}
use lib.ListN.{length, length-append}
use lib.Seq.{append_snoc}
use Rattle.kinds.specs.declared.mode.GovernorMode.{GovernorMode}
use Rattle.kinds.specs.declared.mode.GovernorMode.TheVariants.{Balanced, ReadProtect, WriteEmergency}
use Rattle.state.specs.declared.Streaks.{Streaks}
use Rattle.modes.specs.declared.NextMode.{NextMode}
use Rattle.kinds.specs.Tuning.{Tuning}
use Rattle.kinds.specs.Numbers.{mode_number}
use Rattle.modes.specs.Mode.{next, switched}
use Rattle.governor_promises.specs.Reading.{Seen, IsHot, IsHigh, Each, InEmergency, InReadProtect, ReadsAs, Apart}
use Rattle.governor_promises.proofs.Streaks.{by-test, each_append, streak, Held, next_is, next_not, next_le, streak-next, held_no_row, no_row_held, no_row_next}
use Rattle.governor_promises.proofs.Thresholds.{hot-recovered, high-calm}
use Rattle.governor_promises.proofs.Turns.{at, own, grown, own-grown, ends_in, passes, window, Cuts, turned, longer, by_turn, step, run, run-append}

abbrev pub start : NextMode
start = switched Balanced

module _ (G : Tuning) (A : Apart G) where
  abbrev Cool : Seen → Type 0
  Cool x = ¬ IsHot G x

  abbrev High : Seen → Type 0
  High x = IsHigh G x × ¬ IsHot G x

  -- ---- from a state on

  -- a mode that nothing cuts short lasts while its own streak stays below its window
  lasts : (m : GovernorMode) (k : Streaks) (l : List Seen) → Each (λ (x : Seen). ¬ Cuts G m x) l → Held (passes G m) (window G m) (own m k) l → (run G (at m k) l).mode ≡ m
  unfolding run
  lasts m k [] c h = refl
  lasts m k (x ∷ l) c h =
      by_turn G (λ (t : NextMode). (run G t l).mode ≡ m) m k x (λ y _. absurd (c.0 y)) (λ _ le. absurd (omega (arith, h.0)))
      (λ _ _. lasts m (grown m k (longer G m k x)) l c.1 (rw (own-grown m k (longer G m k x)) h.1))

  uncut : (l : List Seen) → Each (λ (x : Seen). ¬ Cuts G WriteEmergency x) l
  uncut [] = tt
  uncut (x ∷ l) = (λ n. n, uncut l)

  abbrev Emergency : List Seen → NextMode → Type 0
  Emergency l t = (run G t l).mode ≡ WriteEmergency

  -- a hot one leads to WriteEmergency from every mode
  heats : (m : GovernorMode) (k : Streaks) (x : Seen) (l : List Seen) → IsHot G x → Held (passes G WriteEmergency) G.exit_emergency 0 l → Emergency l (turned G m k x)
  heats Balanced k x l h f = by_turn G (Emergency l) Balanced k x (λ _ _. lasts WriteEmergency _ l (uncut l) f) (λ n _. absurd (n h)) (λ n _. absurd (n h))
  heats ReadProtect k x l h f = by_turn G (Emergency l) ReadProtect k x (λ _ _. lasts WriteEmergency _ l (uncut l) f) (λ n _. absurd (n h)) (λ n _. absurd (n h))
  heats WriteEmergency k x l h f =
      let z = next_not (passes G WriteEmergency) k.exit_emergency x (hot-recovered G A x h) in
      by_turn G (Emergency l) WriteEmergency k x (λ y _. absurd y) (λ _ le. absurd (omega (arith, A.exits))) (λ _ _. lasts WriteEmergency _ l (uncut l) (rw z f))

  -- outside WriteEmergency, after n in a row that were high and not hot
  abbrev Up : GovernorMode → ℕ → Streaks → Type 0
  Up WriteEmergency n k = ⊥
  Up Balanced n k = (n ≤ k.enter_read_protect) × (k.enter_read_protect < G.enter_read_protect)
  Up ReadProtect n k = 0 < n → k.exit_read_protect ≡ 0

  abbrev Protect : List Seen → NextMode → Type 0
  Protect l t = (run G t l).mode ≡ ReadProtect

  -- what is left of the row leads to ReadProtect, and stays there
  protects : (r l : List Seen) (m : GovernorMode) (n : ℕ) (k : Streaks) → Up m n k → n + length r ≡ G.enter_read_protect → Each High r → Each Cool l
      → Held (passes G ReadProtect) G.exit_read_protect 0 l → Protect (r ++ l) (at m k)
  unfolding run
  protects [] l WriteEmergency n k u w h c f = absurd u
  protects [] l Balanced n k u w h c f = absurd (omega (arith, u.0, u.1))
  protects [] l ReadProtect n k u w h c f = lasts ReadProtect k l c (rw (u (omega (arith, A.enters))) f)
  protects (x ∷ r) l WriteEmergency n k u w h c f = absurd u
  protects (x ∷ r) l Balanced n k u w h c f =
      let z = next_is (passes G Balanced) k.enter_read_protect x h.0.0 in
      by_turn G (Protect (r ++ l)) Balanced k x (λ y _. absurd (h.0.1 y)) (λ _ _. protects r l ReadProtect (suc n) _ (λ _. refl) (omega arith) h.1 c f)
      (λ _ lt. protects r l Balanced (suc n) _ (omega (arith, u.0), lt) (omega arith) h.1 c f)
  protects (x ∷ r) l ReadProtect n k u w h c f =
      let z = next_not (passes G ReadProtect) k.exit_read_protect x (high-calm G A x h.0.0) in
      by_turn G (Protect (r ++ l)) ReadProtect k x (λ y _. absurd (h.0.1 y)) (λ _ le. absurd (omega (arith, A.leaves)))
      (λ _ _. protects r l ReadProtect (suc n) _ (λ _. z) (omega arith) h.1 c f)

  -- ---- what a list holds at its end, by the mode that it reached

  abbrev reached : List Seen → NextMode
  reached l = run G start l

  reads-emergency : (l : List Seen) → InEmergency G l → (reached l).mode ≡ WriteEmergency
  unfolding run
  reads-emergency l i =
      rw (i.split, run-append G start i.before (i.x ∷ i.after))
      (heats (reached i.before).mode (reached i.before).streaks i.x i.after i.hot
      (no_row_held (passes G WriteEmergency) G.exit_emergency i.after A.exits i.since))

  elsewhere : (m : GovernorMode) (l : List Seen) → mode_number m < 2 → (reached l).mode ≡ m → ¬ InEmergency G l
  elsewhere m l h e i = omega (arith, ap mode_number (sym e ∙ reads-emergency l i))

  -- the last n were high and not hot, the first of them arriving outside WriteEmergency
  record Row (l : List Seen) (n : ℕ) : Type 0 where
    before : List Seen
    row : List Seen
    split : l ≡ before ++ row
    outside : ¬ InEmergency G before
    each : Each High row
    long : length row ≡ n

  no_row : (l : List Seen) → ¬ InEmergency G l → Row l 0
  no_row l o = record { before = l; row = []; split = sym (append-nil l); outside = o; each = tt; long = refl }

  row_next : (l : List Seen) (n : ℕ) (x : Seen) → Row l n → Cool x → ¬ InEmergency G (l ++ x ∷ []) → Row (l ++ x ∷ []) (next (passes G Balanced x) n)
  row_next l n x r c o =
      by-test (λ (n : ℕ). Row (l ++ x ∷ []) n) (passes G Balanced x) (n + 1) 0
      (λ h. record {
        before = r.before;
        row = r.row ++ x ∷ [];
        split = rw r.split (simp append_assoc);
        outside = r.outside;
        each = each_append High r.row (x ∷ []) r.each ((h, c), tt);
        long = simp length-append (omega (arith, r.long));
      })
      (λ _. no_row (l ++ x ∷ []) o)

  abbrev At : GovernorMode → List Seen → Streaks → Type 0
  At WriteEmergency l k = (i : InEmergency G l) × (k.exit_emergency ≡ streak (passes G WriteEmergency) 0 i.after)
  At Balanced l k = Row l k.enter_read_protect × (k.enter_read_protect < G.enter_read_protect)
  At ReadProtect l k = (i : InReadProtect G l) × (k.exit_read_protect ≡ streak (passes G ReadProtect) 0 i.after)

  abbrev AtEnd : List Seen → NextMode → Type 0
  AtEnd l s = At s.mode l s.streaks

  abbrev Ends : List Seen → NextMode → Type 0
  Ends l s = (reached l).mode ≡ s.mode → AtEnd l s

  begun : (l : List Seen) → Ends l start
  begun l e = (no_row l (elsewhere Balanced l (omega arith) e), A.enters)

  module _ (l : List Seen) (k : Streaks) (x : Seen) where
    heated : IsHot G x → Ends (l ++ x ∷ []) (switched WriteEmergency)
    unfolding streak
    heated h e = (record { before = l; x = x; after = []; split = refl; hot = h; since = held_no_row (passes G WriteEmergency) G.exit_emergency [] A.exits tt }, refl)

    topped : (m : GovernorMode) → At m l k → ¬ Cuts G m x → window G m ≤ longer G m k x → Ends (l ++ x ∷ []) (switched (ends_in m))
    unfolding streak
    topped WriteEmergency a c le e = begun (l ++ x ∷ []) e
    topped ReadProtect a c le e = begun (l ++ x ∷ []) e
    topped Balanced a c le e =
        let r = row_next l k.enter_read_protect x a.0 c (elsewhere ReadProtect (l ++ x ∷ []) (omega arith) e) in (
          record {
            before = r.before;
            row = r.row;
            after = [];
            split = rw append-nil r.split;
            outside = r.outside;
            long = omega (arith, r.long, a.1, next_le (passes G Balanced) k.enter_read_protect x);
            each = r.each;
            cool = tt;
            since = held_no_row (passes G ReadProtect) G.exit_read_protect [] A.leaves tt;
          },
          refl,
        )

    goes_on : (m : GovernorMode) → At m l k → ¬ Cuts G m x → longer G m k x < window G m → Ends (l ++ x ∷ []) (at m (grown m k (longer G m k x)))
    goes_on WriteEmergency a c lt e = (
      record {
        before = a.0.before;
        x = a.0.x;
        after = a.0.after ++ x ∷ [];
        split = rw a.0.split (simp append_assoc);
        hot = a.0.hot;
        since = no_row_next (passes G WriteEmergency) G.exit_emergency a.0.after x A.exits a.0.since (rw a.1 at lt);
      },
      rw (streak-next, ← a.1),
    )
    goes_on Balanced a c lt e = (row_next l k.enter_read_protect x a.0 c (elsewhere Balanced (l ++ x ∷ []) (omega arith) e), lt)
    goes_on ReadProtect a c lt e = (
      record {
        before = a.0.before;
        row = a.0.row;
        after = a.0.after ++ x ∷ [];
        split = rw a.0.split (simp append_assoc);
        outside = a.0.outside;
        long = a.0.long;
        each = a.0.each;
        cool = each_append Cool a.0.after (x ∷ []) a.0.cool (c, tt);
        since = no_row_next (passes G ReadProtect) G.exit_read_protect a.0.after x A.leaves a.0.since (rw a.1 at lt);
      },
      rw (streak-next, ← a.1),
    )

  ends : (l t : List Seen) → AtEnd l (reached l) → AtEnd (l ++ t) (reached (l ++ t))
  unfolding run
  ends l [] a = rw append-nil a
  ends l (x ∷ t) a =
      let s = reached l in
      let one : reached (l ++ x ∷ []) ≡ step G s x = run-append G start l (x ∷ []) in
      let here : AtEnd (l ++ x ∷ []) (reached (l ++ x ∷ [])) =
      rw one (by_turn G (Ends (l ++ x ∷ [])) s.mode s.streaks x (λ _. heated l s.streaks x) (topped l s.streaks x s.mode a) (goes_on l s.streaks x s.mode a) (ap (λ (t : NextMode). t.mode) one))
      in
      rw (← (append_snoc l x t)) (ends (l ++ x ∷ []) t here)

  end : (l : List Seen) → AtEnd l (reached l)
  unfolding run
  end l = ends [] l (begun [] refl)

  -- ---- the reading

  reads_protect : (l : List Seen) → InReadProtect G l → (reached l).mode ≡ ReadProtect
  reads_protect l i =
      rw (i.split, append_assoc, run-append G start i.before (i.row ++ i.after))
      (protects i.row i.after (reached i.before).mode 0 (reached i.before).streaks (starts (reached i.before).mode (end i.before)) (omega (arith, i.long)) i.each i.cool
      (no_row_held (passes G ReadProtect) G.exit_read_protect i.after A.leaves i.since))
    where
      starts : (m : GovernorMode) → At m i.before (reached i.before).streaks → Up m 0 (reached i.before).streaks
      starts WriteEmergency a = i.outside a.0
      starts Balanced a = (omega arith, a.1)
      starts ReadProtect a = λ z. absurd (omega arith)

  read : (m : GovernorMode) (l : List Seen) → (reached l).mode ≡ m → At m l (reached l).streaks → ReadsAs G l m
  read WriteEmergency l e a = a.0
  read ReadProtect l e a = a.0
  read Balanced l e a = (elsewhere Balanced l (omega arith) e, λ i. omega (arith, ap mode_number (sym e ∙ reads_protect l i)))

  otherwise : (m : GovernorMode) (l : List Seen) → (reached l).mode ≡ m → At m l (reached l).streaks → ReadsAs G l Balanced → (reached l).mode ≡ Balanced
  otherwise WriteEmergency l e a o = absurd (o.0 a.0)
  otherwise ReadProtect l e a o = absurd (o.1 a.0)
  otherwise Balanced l e a o = e

  is_read : (m : GovernorMode) (l : List Seen) → ReadsAs G l m → (reached l).mode ≡ m
  is_read WriteEmergency l i = reads-emergency l i
  is_read ReadProtect l i = reads_protect l i
  is_read Balanced l o = otherwise (reached l).mode l refl (end l) o

pub mode-read : (G : Tuning) → Apart G → (xs : List Seen) (m : GovernorMode) → ((run G start xs).mode ≡ m) ↔ ReadsAs G xs m
mode-read G A xs m = (λ e. read G A m xs e (subst (λ (n : GovernorMode). At G A n xs (run G start xs).streaks) e (end G A xs)), is_read G A m xs)
