-- `replay_text::reader::find` meets its contract.
use Rattle.std.proofs.Common.{◌≡◌, ◌-◌, length, take, drop, take_all, length-drop, sym, ◌∙◌, arith}
use Rattle.replay_text.specs.Lines.Steps.{before-some, before-none, before-end}
use Rattle.replay_text.proofs.reader.find.Goals as goal

pub returns-then-text-at-clause-value : goal.returns-then-text-at-clause-value
returns-then-text-at-clause-value c = omega (arith, before-end c.args.byte c.args.text.now c.args.at c.if-text-at.true)

pub returns-in-Some-clause-value : goal.returns-in-Some-clause-value
returns-in-Some-clause-value c = let t = c.args.text.now in
    let a = c.args.at in
    let w : take (length t - a) (drop a t) ≡ drop a t = take_all (length t - a) (drop a t) (simp length-drop (omega arith)) in
    omega (arith, before-some c.args.byte (drop a t) c.in-Some.place (rw w at (sym c.place_in.ensures ∙ c.in-Some.is)))

pub returns-in-None-clause-value : goal.returns-in-None-clause-value
returns-in-None-clause-value c = let t = c.args.text.now in
    let a = c.args.at in
    let w : take (length t - a) (drop a t) ≡ drop a t = take_all (length t - a) (drop a t) (simp length-drop (omega arith)) in
    omega (arith, length-drop a t, before-none c.args.byte (drop a t) (rw w at (sym c.place_in.ensures ∙ c.in-None.is)))
