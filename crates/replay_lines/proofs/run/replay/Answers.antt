-- `replay_lines::run::replay` meets its contract.
use Rattle.std.proofs.Common.{ℕ, ◌≤◌, length, zero-add, List, [], ◌++◌, ◌≡◌, ap, sym, ◌∙◌, arith}
use Rattle.replay_lines.specs.Replay.{Replayed, replay_from, replayed_of, replay_out, Counts}
use Rattle.replay_text.specs.Lines.{lines_of}
use Rattle.state.specs.State.{fresh_of}
use Rattle.lists.specs.Writes.{sets_front}
use Rattle.replay_lines.specs.Replay.Steps.{replay_over, replay_within, answered, refused, answer-counts, none_of}
use Rattle.replay_lines.proofs.run.replay.Goals as goal

-- the third clause follows from the other two
counted : (bytes old : List ℕ) (r : Replayed) (new : List ℕ) → (r ≡ replayed_of bytes (length old)) × (new ≡ replay_out bytes old)
    → (r ≡ replayed_of bytes (length old)) × ((new ≡ replay_out bytes old) × Counts r.length new)
counted bytes old r new (e, f) = (e, (f, rw (e, f) (answer-counts bytes old)))

pub returns-then-text-gt-MOST : goal.returns-then-text-gt-MOST
returns-then-text-gt-MOST c = let a = c.args in
    let r = counted a.text.now a.out.now (record { refusal = 0; length = 0 }) a.out.now (answered _ _ [] (sym (replay_over a.text.now c.if-text-gt-MOST.true)) (omega arith)) in
    record { refusal = ap (λ (w : Replayed). w.refusal) r.0; value = ap (λ (w : Replayed). w.length) r.0; out_after = r.1.0; counts = r.1.1 }

pub returns-then-out-length : goal.returns-then-out-length
returns-then-out-length c = let a = c.args in
    let p = c.run-length in
    let is = sym (replay_within a.text.now c.if-text-gt-MOST.false) in
    let no = refused _ a.out.now _ is (omega (arith, p.ensures.ends)) in
    let r = counted a.text.now a.out.now (record { refusal = 9; length = 0 }) (p.new.out ++ a.out.now) (no.0, none_of p.new.out a.out.now p.auto.out ∙ no.1) in
    record { refusal = ap (λ (w : Replayed). w.refusal) r.0; value = tt; out_after = r.1.0; counts = tt }

pub returns : goal.returns
returns c = let a = c.args in
    let text = a.text.now in
    let out = a.out.now in
    let p = c.run-length in
    let printed = replay_from (fresh_of 0) 1 (lines_of text) in
    let room : length printed ≤ length out = omega (arith, p.ensures.ends) in
    let f = rw (none_of p.new.out out p.auto.out) at c.run.ensures in
    let yes = answered _ out _ (sym (replay_within text c.if-text-gt-MOST.false)) room in
    let r = counted text out (record { refusal = 0; length = p.result }) c.run.new.out (rw (p.ensures.ends, zero-add) yes.0, f.stands ∙ sets_front printed out room ∙ yes.1) in
    record { refusal = ap (λ (w : Replayed). w.refusal) r.0; value = ap (λ (w : Replayed). w.length) r.0; out_after = r.1.0; counts = r.1.1 }
