-- `reliefs::level_bytes` meets its contract.
use Rattle.std.proofs.Common.{drop, ◌-◌, ◌^◌, ◌≤◌, ◌≡◌}
use Rattle.counts.specs.Counts.{saturating_add}
use Rattle.reliefs.specs.Reliefs.{at_level, bytes_of, level_bytes_of}
use Rattle.records.specs.Tables.{tables_of}
use Rattle.reliefs.proofs.level_bytes.Given as goal

abbrev pub invariant-loop-i : goal.invariant-loop-i
invariant-loop-i l = (l.sum ≤ 2 ^ 64 - 1) × (level_bytes_of l.level (tables_of l.tables) ≡ saturating_add l.sum (bytes_of (at_level l.level (drop l.i (tables_of l.tables)))))
