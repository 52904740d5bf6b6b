-- `estimates::Numbered::tally` meets its contract.
use Rattle.std.proofs.Common.{drop, ◌+◌, ◌*◌, ◌^◌, ◌≤◌, ◌≡◌}
use Rattle.estimates.specs.Estimate.Tally.{tally_from, tally_of}
use Rattle.estimates.specs.Estimate.{matched}
use Rattle.records.specs.Tables.{tables_of}
use Rattle.estimates.proofs.Numbered.tally.Given as goal

abbrev pub invariant-loop-number : goal.invariant-loop-number
invariant-loop-number l = (l.t.input + l.t.overlap ≤ l.number-index * 2 ^ 40) × (l.t.files ≤ l.number-index) × (tally_from l.level l.t (matched (tables_of l.self.tables.now) (drop l.number-index l.own)) ≡ tally_of l.level l.next (matched (tables_of l.self.tables.now) l.own))
