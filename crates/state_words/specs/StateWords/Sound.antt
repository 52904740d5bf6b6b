-- What is known of words that are a state, and of words that are written over.
use Rattle.std.specs.Prelude.{◌≡◌, refl, ℕ, ◌-◌, ◌^◌, ◌≤◌, Bool, true, false, cond, ◌&&◌, List, length, get_or, leb, eqb}
use Rattle.std.proofs.Common.{◌∙◌, arith, drop_of_length-le, leb-true, eqb-true, eq-eqb}
use Rattle.std.proofs.lemmas.List.Edits.{sets}
use Rattle.lists.specs.Writes.{sets_front}
use Rattle.refusals.specs.Refusals.{none}
use Rattle.state.specs.declared.GovernorState.{GovernorState}
use Rattle.state.specs.State.{Observed}
use Rattle.state_words.specs.StateWords.{tag, not_a_state, small, focus_good, is_state, Good, state_words, gated, refusal_of, words_after}

pub both : {a b : Bool} → (a && b) ≡ true → (a ≡ true) × (b ≡ true)
both {a = true} e = (refl, e)
both {a = false} e = (e, cc)

level-small : (f l : ℕ) → focus_good f l ≡ true → l ≤ 2 ^ 32 - 1
unfolding focus_good
level-small f l e = by _ refl e
  where
    by : (a : Bool) → eqb f 0 ≡ a → cond a (eqb l 0) (eqb f 1 && small l) ≡ true → l ≤ 2 ^ 32 - 1
    by true p e = omega (arith, eqb-true l 0 e)
    by false p e = leb-true l (2 ^ 32 - 1) (both {a = eqb f 1} e).1

pub good : (ws : List ℕ) → is_state ws ≡ true → Good ws
unfolding is_state
good ws e =
    let n = both {a = eqb (length ws) 28} e in
    let t = both {a = eqb (get_or ws 0 0) tag} n.1 in
    let m = both {a = leb (get_or ws 1 0) 2} t.1 in
    let f = both {a = focus_good (get_or ws 9 0) (get_or ws 10 0)} m.1 in
    let k = both {a = small (get_or ws 11 0) && small (get_or ws 12 0)} f.1 in
    let a = both {a = small (get_or ws 11 0)} k.0 in
    let b = both {a = small (get_or ws 13 0)} k.1 in
    record {
      long = eqb-true _ _ n.0;
      level = level-small (get_or ws 9 0) (get_or ws 10 0) f.0;
      streak = leb-true _ _ a.0;
      enter = leb-true _ _ a.1;
      exit = leb-true _ _ b.0;
      emergency = leb-true _ _ b.1;
    }

-- a state's words take the place of all that are lent
pub whole : (ws : List ℕ) (s : GovernorState) → length ws ≡ 28 → sets ws 0 (state_words s) ≡ state_words s
unfolding state_words
whole ws s e = sets_front (state_words s) ws (omega (arith, e)) ∙ rw (drop_of_length-le ws {i = 28} (omega (arith, e)))

gated-state : (ws : List ℕ) (n : ℕ) → gated ws n ≡ none → is_state ws ≡ true
unfolding gated
gated-state ws n = by (is_state ws)
  where
    by : (b : Bool) → cond b n not_a_state ≡ none → b ≡ true
    by true e = refl
    by false e = absurd (omega (arith, e))

pub kept : (ws : List ℕ) (o : Observed) → refusal_of ws o ≡ none → sets ws 0 (state_words o.state) ≡ words_after ws o
unfolding words_after
kept ws o e = rw (eq-eqb (refusal_of ws o) none e) (whole ws o.state (good ws (gated-state ws o.refusal e)).long)
