-- `search::last_best` meets its contract. The best of the places before this one is held.
use Rattle.std.proofs.Common.{◌≡◌, ◌∙◌, sym, refl, true, false, arith}
use Rattle.search.specs.Search.Pass.{held_start, held_next, held-end}
use Rattle.search.proofs.last_best.Goals as goal
use Rattle.search.proofs.last_best.Goals.{then-compared+in-Some, then-compared+in_default-2, then-compared+in_default, else-compared}

pub loop-here-init : goal.loop-here-init
loop-here-init g c = record { placed = λ k e. cc; held = λ s read t b. held_start s read c.args.n }

pub loop-here-preserved : goal.loop-here-preserved
loop-here-preserved g c =
    let l = c.loop-here in
    let n = c.args.n in
    let h = c.loop-here-test.true in
    elim c.if-compared.branch [
      | then-compared+in-Some w ↦
          let p = l.invariant.placed _ w.in-Some.is in
          record {
            placed = λ k e. let q = l.invariant.placed k (w.in-Some.is ∙ sym w.best-is ∙ e) in omega arith;
            held = λ s read t b. rw (w.best-is ∙ sym w.in-Some.is) (held_next s read n l.best l.here true true h (t l.here _ h c.compared.ensures ∙ w.if-compared.true) (rw w.in-Some.is (b l.here _ _ h (omega arith) w.below.ensures ∙ w.if-below.true)) (l.invariant.held s read t b));
          }
      | then-compared+in_default-2 w ↦
          let p = l.invariant.placed _ w.in-Some.is in
          record {
            placed = λ k e. let q : l.here ≡ k = cc in omega arith;
            held = λ s read t b. rw w.best-is (held_next s read n l.best l.here true false h (t l.here _ h c.compared.ensures ∙ w.if-compared.true) (rw w.in-Some.is (b l.here _ _ h (omega arith) w.below.ensures ∙ w.if-below.false)) (l.invariant.held s read t b));
          }
      | then-compared+in_default w ↦
          record {
            placed = λ k e. let q : l.here ≡ k = cc in omega arith;
            held = λ s read t b. rw w.best-is (held_next s read n l.best l.here true false h (t l.here _ h c.compared.ensures ∙ w.if-compared.true) (rw w.in_default.is) (l.invariant.held s read t b));
          }
      | else-compared w ↦
          record {
            placed = λ k e. let q = l.invariant.placed k (sym w.best-is ∙ e) in omega arith;
            held = λ s read t b. rw w.best-is (held_next s read n l.best l.here false _ h (t l.here _ h c.compared.ensures ∙ w.if-compared.false) refl (l.invariant.held s read t b));
          }
    ]

pub returns : goal.returns
returns g c = λ s read t b. held-end s read c.args.n c.loop-here.best c.loop-here.here c.loop-here-test.false (c.loop-here.invariant.held s read t b)
