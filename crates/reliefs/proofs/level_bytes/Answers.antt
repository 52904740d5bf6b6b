-- `reliefs::level_bytes` meets its contract.
use Rattle.std.proofs.Common.{Bool, eqb, eq-eqb, ne_eqb, ℕ, ◌+◌, ◌≡◌, ◌∙◌, arith}
use Rattle.lists.specs.Filter.{filter-keep, filter_skip, filter-end}
use Rattle.counts.specs.Counts.{saturating_add}
use Rattle.reliefs.specs.Reliefs.{bytes_of}
use Rattle.records.specs.declared.tables.Table.{Table}
use Rattle.records.specs.Tables.{tables_of, no_table}
use Rattle.reliefs.proofs.level_bytes.Goals as goal
use Rattle.reliefs.proofs.level_bytes.Goals.{then-t-level, else-t-level}

abbrev has_level : ℕ → Table → Bool
has_level level t = eqb t.level level

-- a sum that stops may stop on the way
on-the-way : (a b rest : ℕ) → saturating_add a (b + rest) ≡ saturating_add (saturating_add a b) rest
on-the-way a b rest = omega arith

pub loop-i-init : goal.loop-i-init
loop-i-init c = (omega arith, omega arith)

pub loop-i-preserved : goal.loop-i-preserved
unfolding bytes_of
loop-i-preserved c = let l = c.loop-i in let t = c.table_at-t.ensures in
    elim c.if-t-level.branch [
      | then-t-level w ↦
          let e = w.saturating_add-sum.ensures in
          (rw w.sum-is (rw e (omega arith)), l.invariant.1 ∙ rw (filter-keep (has_level c.args.level) (tables_of c.args.tables.now) l.i no_table (omega arith) (rw t at (eq-eqb _ _ w.if-t-level.true)), w.sum-is, e, t) (on-the-way _ _ _))
      | else-t-level w ↦
          (rw w.sum-is l.invariant.0, l.invariant.1 ∙ rw (w.sum-is, filter_skip (has_level c.args.level) (tables_of c.args.tables.now) l.i no_table (omega arith) (rw t at (ne_eqb _ _ w.if-t-level.false))))
    ]

pub returns : goal.returns
unfolding bytes_of
returns c = let a = c.args in let l = c.loop-i in
    let e = rw (filter-end (has_level a.level) (tables_of a.tables.now) l.i (omega arith)) at l.invariant.1 in omega (arith, e)
