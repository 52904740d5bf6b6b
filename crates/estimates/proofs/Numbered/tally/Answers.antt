-- `estimates::Numbered::tally` meets its contract.
use Rattle.std.proofs.Common.{get_or, ◌^◌, ◌≤◌, [], ◌∷◌, ◌≡◌, sym, arith}
use Rattle.estimates.specs.Estimate.Tally.{tally_from, tally_is, with_sum, with_files}
use Rattle.lists.specs.Flat.{flat_more, flat_end}
use Rattle.lookups.specs.Lookups.{lookup}
use Rattle.estimates.specs.Estimate.Members.{small-found}
use Rattle.records.specs.Tables.{tables_of}
use Rattle.estimates.proofs.Numbered.tally.Goals as goal
use Rattle.estimates.proofs.Numbered.tally.Goals.{in-Some, in_default}

pub loop-number-init : goal.loop-number-init
loop-number-init c = (omega arith, omega arith, tally_is _ _ _)

-- the table at hand is the one that its number is looked up as, and small
pub with_table-t-requires : goal.with_table-t-requires
with_table-t-requires c = let size : c.in-Some.x.size ≤ 2 ^ 40 = small-found _ _ _ c.requires.0 (sym c.in-Some.ensures) in
    (omega arith, omega arith, size)

pub loop-number-preserved : goal.loop-number-preserved
unfolding tally_from
loop-number-preserved c = let a = c.args in let l = c.loop-number in let more = flat_more (lookup (tables_of a.self.now.tables.now)) a.own.now l.number-index 0 (omega arith) in
    elim c.match-find.branch [
      | in-Some w ↦
          let here : lookup (tables_of a.self.now.tables.now) (get_or a.own.now l.number-index 0) ≡ w.in-Some.x ∷ [] = sym w.in-Some.ensures in
          let size : w.in-Some.x.size ≤ 2 ^ 40 = small-found _ _ _ c.requires.0 here in
          let e = w.with_table-t.ensures in (
            rw (w.t-is, e) (omega (arith, with_sum a.level l.t w.in-Some.x, size)),
            rw (w.t-is, e) (omega (arith, with_files a.level l.t w.in-Some.x)),
            rw (w.t-is, e) (rw (more, here) at l.invariant.2),
          )
      | in_default w ↦
          let none : lookup (tables_of a.self.now.tables.now) (get_or a.own.now l.number-index 0) ≡ [] = sym w.in_default.ensures in
          (rw w.t-is (omega arith), rw w.t-is (omega arith), rw w.t-is (rw (more, none) at l.invariant.2))
    ]

pub returns : goal.returns
unfolding tally_from
returns c = let l = c.loop-number in
    (rw (flat_end (lookup (tables_of c.args.self.now.tables.now)) c.args.own.now l.number-index (omega arith)) at l.invariant.2, omega arith)
