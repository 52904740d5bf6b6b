-- What the words of a state are by the state that is read from them: a call that leaves a field leaves its word.
use Rattle.std.specs.Prelude.{◌≡◌, refl, ℕ, ◌≤◌, Bool, true, false, cond, ◌&&◌, List, length, get_or, leb, eqb, Some, None}
use Rattle.std.proofs.Common.{sym, arith, leb-true, eqb-true}
use Rattle.std.proofs.lemmas.Bool.{eqb-false}
use Rattle.kinds.specs.declared.mode.GovernorMode.TheVariants.{Balanced, ReadProtect, WriteEmergency}
use Rattle.kinds.specs.Numbers.{mode_number}
use Rattle.state_words.specs.StateWords.{tag, small, mode_from, focus_good, focus_from, focus_flag, focus_level, is_state}
use Rattle.state_words.specs.StateWords.Sound.{both}

pub record Kept (ws : List ℕ) : Type 0 where
  pub long : length ws ≡ 28
  pub tagged : get_or ws 0 0 ≡ tag
  pub mode : mode_number (mode_from (get_or ws 1 0)) ≡ get_or ws 1 0
  pub flag : focus_flag (focus_from (get_or ws 9 0) (get_or ws 10 0) (get_or ws 11 0)).current_focus ≡ get_or ws 9 0
  pub level : focus_level (focus_from (get_or ws 9 0) (get_or ws 10 0) (get_or ws 11 0)).current_focus ≡ get_or ws 10 0
  pub streak : (focus_from (get_or ws 9 0) (get_or ws 10 0) (get_or ws 11 0)).streak ≡ get_or ws 11 0

mode-word : (n : ℕ) → n ≤ 2 → mode_number (mode_from n) ≡ n
unfolding mode_from
mode-word n h = by (eqb n 0) (eqb n 1) refl refl
  where
    by : (a b : Bool) → eqb n 0 ≡ a → eqb n 1 ≡ b → mode_number (cond a Balanced (cond b ReadProtect WriteEmergency)) ≡ n
    by true b p q = sym (eqb-true n 0 p)
    by false true p q = sym (eqb-true n 1 q)
    by false false p q = omega (arith, h, eqb-false n 0 p, eqb-false n 1 q)

focus-words : (f l n : ℕ) → focus_good f l ≡ true → (focus_flag (focus_from f l n).current_focus ≡ f) × (focus_level (focus_from f l n).current_focus ≡ l)
unfolding focus_good focus_from
focus-words f l n = by (eqb f 0) refl
  where
    by : (b : Bool) → eqb f 0 ≡ b → cond b (eqb l 0) (eqb f 1 && small l) ≡ true
        → (focus_flag (cond b None (Some l)) ≡ f) × (focus_level (cond b None (Some l)) ≡ l)
    by true p e = (sym (eqb-true f 0 p), sym (eqb-true l 0 e))
    by false p e = (sym (eqb-true f 1 (both {a = eqb f 1} e).0), refl)

pub kept : (ws : List ℕ) → is_state ws ≡ true → Kept ws
unfolding is_state focus_from
kept ws e =
    let n = both {a = eqb (length ws) 28} e in
    let t = both {a = eqb (get_or ws 0 0) tag} n.1 in
    let m = both {a = leb (get_or ws 1 0) 2} t.1 in
    let f = both {a = focus_good (get_or ws 9 0) (get_or ws 10 0)} m.1 in
    let k = focus-words (get_or ws 9 0) (get_or ws 10 0) (get_or ws 11 0) f.0 in
    record {
      long = eqb-true _ _ n.0;
      tagged = eqb-true _ _ t.0;
      mode = mode-word (get_or ws 1 0) (leb-true _ _ m.0);
      flag = k.0;
      level = k.1;
      streak = refl;
    }
