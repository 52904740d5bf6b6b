-- `offers::batches::seed` meets its contract. The definition's own state: the best number and where it stands.
use Rattle.std.proofs.Common.{◌≡◌, ◌≤◌, length, drop}
use Rattle.offers.specs.Offers.{seed_from, seed_of}
use Rattle.records.specs.Tables.{tables_of}
use Rattle.offers.proofs.batches.seed.Given as goal

abbrev pub invariant-loop-i : goal.invariant-loop-i
invariant-loop-i l = (l.i ≤ length l.order) × (seed_of (tables_of l.tables) l.order ≡ seed_from (tables_of l.tables) l.i l.best l.at (drop l.i l.order))
