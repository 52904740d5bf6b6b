-- `replay_text::fields::Fields` gives a line's fields, one after the other.
use Rattle.std.proofs.Common.{◌≡◌, ℕ, ◌+◌, ◌-◌, ◌<◌, length, List, ◌∷◌, take, drop, ◌∙◌, take_all, length-drop, arith}
use native.Mathlib.Nat.{sub-zero}
use Rattle.replay_text.specs.Lines.{fields_of, comma, find_of}
use Rattle.replay_text.specs.Lines.Fields.{field-more, field-last}
use Rattle.replay_text.proofs.fields.FieldsIterator.next.Goals as goal

first : (line : List ℕ) (e : ℕ) → e ≡ find_of line comma 0 → e < length line → fields_of line ≡ take e line ∷ fields_of (take (length line - (e + 1)) (drop (e + 1) line))
first line e is h =
    let w : take (length line - (e + 1)) (drop (e + 1) line) ≡ drop (e + 1) line = take_all (length line - (e + 1)) (drop (e + 1) line) (simp length-drop (omega arith)) in
    field-more line 0 e is h ∙ rw (sub-zero, w)

pub returns-then-end-rest-clause-steps : goal.returns-then-end-rest-clause-steps
returns-then-end-rest-clause-steps c = rw c.in_ok-rest.was (first c.in_ok-rest.rest.now c.find-end.result c.find-end.ensures.value c.if-end-rest.true)

pub returns-then-end-rest-clause-goes : goal.returns-then-end-rest-clause-goes
returns-then-end-rest-clause-goes c =
    let f = first c.in_ok-rest.rest.now c.find-end.result c.find-end.ensures.value c.if-end-rest.true in
    record { on = λ _. (tt, tt, rw (c.in_ok-rest.was, f) (omega arith)); keeps = tt; rests = λ _. tt }

pub returns-clause-steps : goal.returns-clause-steps
returns-clause-steps c = rw c.in_ok-rest.was (field-last c.in_ok-rest.rest.now 0 (rw c.find-end.ensures.value at c.if-end-rest.false))

pub returns-clause-goes : goal.returns-clause-goes
returns-clause-goes c =
    let f = field-last c.in_ok-rest.rest.now 0 (rw c.find-end.ensures.value at c.if-end-rest.false) in
    record { on = λ _. (tt, tt, rw (c.in_ok-rest.was, f) (omega arith)); keeps = tt; rests = λ _. tt }
