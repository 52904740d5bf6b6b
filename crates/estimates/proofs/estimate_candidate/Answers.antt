-- `estimates::estimate_candidate` meets its contract.
use Rattle.estimates.specs.Estimate.Tally.{estimate-l0, estimate-level}
use Rattle.records.specs.Tables.{tables_of, entries_of}
use Rattle.estimates.proofs.estimate_candidate.Goals as goal

pub returns-then-c-eq1 : goal.returns-then-c-eq1
returns-then-c-eq1 c = let a = c.args in estimate-l0 (tables_of a.numbered.now.tables.now) a.next (entries_of a.over.now) a.numbers.now a.c c.if-c-eq1.true c.tally-t.ensures.0 c.saturating_sub.ensures

pub returns : goal.returns
returns c = let a = c.args in
    estimate-level (tables_of a.numbered.now.tables.now) a.next (entries_of a.over.now) a.numbers.now a.c c.requires.sound.small c.requires.sound.few c.if-c-eq1.false c.tally-t-2.ensures.0 c.rewrite.ensures c.saturating_sub-2.ensures c.requires.level_sum c.debt_relief.ensures
