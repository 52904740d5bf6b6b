-- `reliefs::debt_relief` meets its contract. No entry before `i` has the level.
use Rattle.std.proofs.Common.{Bool, eqb, ℕ, drop, ◌≡◌}
use Rattle.lists.specs.Filter.{filter_of}
use Rattle.records.specs.declared.tables.Entry.{Entry}
use Rattle.records.specs.Tables.{entries_of}
use Rattle.reliefs.proofs.debt_relief.Given as goal

abbrev pub has_level : ℕ → Entry → Bool
has_level level e = eqb e.level level

abbrev pub invariant-loop-i : goal.invariant-loop-i
invariant-loop-i l = filter_of (has_level l.level) (entries_of l.over) ≡ filter_of (has_level l.level) (drop l.i (entries_of l.over))
