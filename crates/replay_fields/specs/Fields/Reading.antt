-- A line's fields, read one after the other.
use Rattle.std.specs.Prelude.{◌≡◌, refl, ℕ, suc, Option, Some, None, MatchOption, cond, List, [], ◌∷◌, length, drop}
use Rattle.std.specs.Borrow.{Bor}
use Rattle.std.specs.Option.{is_some}
use Rattle.replay_fields.specs.declared.Observation.{Observation}
use Rattle.std.proofs.Common.{arith, sym, ◌∙◌, drop-drop, ne_eqb}
use Rattle.std.proofs.Math.Bool.{and-false}
use Rattle.numerals.specs.Numbers.{decimal_of, bits_of}
use Rattle.replay_fields.specs.Fields.{observation, line_of}

-- the first field as a number; none where there is no field
abbrev pub first_in : (List ℕ → Option ℕ) → List (List ℕ) → Option ℕ
first_in read [] = None
first_in read (f ∷ fs) = read f

-- a field was read, and the others are left
pub record Took (read : List ℕ → Option ℕ) (old new : List (List ℕ)) (r : Option ℕ) : Type 0 where
  pub number : r ≡ first_in read old
  pub rest : new ≡ drop 1 old

pub took : (read : List ℕ → Option ℕ) (old new : List (List ℕ)) (o : Option (Bor (List ℕ))) (r : Option ℕ)
    → MatchOption o ((old ≡ []) × (new ≡ [])) (λ x. old ≡ x.now ∷ new) → MatchOption o (r ≡ None) (λ x. r ≡ read x.now) → Took read old new r
took read old new None r s n = record { number = rw s.0 n; rest = rw (s.0, s.1) refl }
took read old new (Some x) r s n = record { number = rw s n; rest = rw s refl }

abbrev pub observation_in : List (List ℕ) → Option Observation
observation_in fs =
    observation (first_in decimal_of fs) (first_in decimal_of (drop 1 fs)) (first_in decimal_of (drop 2 fs)) (first_in bits_of (drop 3 fs)) (first_in bits_of (drop 4 fs)) (first_in decimal_of (drop 5 fs))

-- what six readings leave, and what was read
pub record SixRead (fs left : List (List ℕ)) (o : Option Observation) : Type 0 where
  pub behind : left ≡ drop 6 fs
  pub read : o ≡ observation_in fs

pub six_read : {f0 f1 f2 f3 f4 f5 f6 : List (List ℕ)} {a b c d e g : Option ℕ}
    → Took decimal_of f0 f1 a → Took decimal_of f1 f2 b → Took decimal_of f2 f3 c → Took bits_of f3 f4 d → Took bits_of f4 f5 e → Took decimal_of f5 f6 g → SixRead f0 f6 (observation a b c d e g)
six_read {f0} p q r s t u =
    record { behind = rw (u.rest, t.rest, s.rest, r.rest, q.rest, p.rest) (simp drop-drop); read = rw (u.number, t.number, s.number, r.number, q.number, p.number, t.rest, s.rest, r.rest, q.rest, p.rest) (simp drop-drop) }

pub line-six : (fs : List (List ℕ)) → drop 6 fs ≡ [] → line_of fs ≡ observation_in fs
unfolding line_of observation
line-six [] e = refl
line-six (a ∷ []) e = simp and-false
line-six (a ∷ b ∷ []) e = simp and-false
line-six (a ∷ b ∷ c ∷ []) e = simp and-false
line-six (a ∷ b ∷ c ∷ d ∷ []) e = simp and-false
line-six (a ∷ b ∷ c ∷ d ∷ f ∷ []) e = simp and-false
line-six (a ∷ b ∷ c ∷ d ∷ f ∷ g ∷ []) e = refl
line-six (a ∷ b ∷ c ∷ d ∷ f ∷ g ∷ h ∷ fs) e = cc

pub line_seven : (f : List ℕ) (fs rest : List (List ℕ)) → drop 6 fs ≡ f ∷ rest → line_of fs ≡ None
unfolding line_of
line_seven f [] rest e = cc
line_seven f (a ∷ []) rest e = cc
line_seven f (a ∷ b ∷ []) rest e = cc
line_seven f (a ∷ b ∷ c ∷ []) rest e = cc
line_seven f (a ∷ b ∷ c ∷ d ∷ []) rest e = cc
line_seven f (a ∷ b ∷ c ∷ d ∷ g ∷ []) rest e = cc
line_seven f (a ∷ b ∷ c ∷ d ∷ g ∷ h ∷ []) rest e = cc
line_seven f (a ∷ b ∷ c ∷ d ∷ g ∷ h ∷ i ∷ fs) rest e = rw (ne_eqb (suc (suc (suc (suc (suc (suc (suc (length fs)))))))) 6 (omega arith))

-- whether a seventh field came decides
pub line_read : (fs left new : List (List ℕ)) (o : Option Observation) (r : Option (Bor (List ℕ))) → SixRead fs left o → MatchOption r ((left ≡ []) × (new ≡ [])) (λ x. left ≡ x.now ∷ new)
    → line_of fs ≡ cond (is_some r) None o
line_read fs left new o None s m = line-six fs (sym s.behind ∙ m.0) ∙ sym s.read
line_read fs left new o (Some x) s m = line_seven x.now fs new (sym s.behind ∙ m)
