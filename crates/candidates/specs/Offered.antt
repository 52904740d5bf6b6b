-- What an accepted call offers: each a candidate of its kind, and at most 145.
use Rattle.std.specs.Prelude.{◌≡◌, ℕ, ◌≤◌, length}
use Rattle.std.proofs.Common.{arith}
use borrow.Author.Tests.{ltb-false}
use Rattle.lists.specs.Any.{any-no}
use Rattle.records.specs.Tables.{tables_of, entries_of}
use Rattle.faults.specs.Limits.{max_tables, max_over_budget, max_candidates, max_over_level}
use Rattle.faults.specs.Tables.{level_out, levels_out}
use Rattle.candidate_words.specs.Bounds.{all_bounded}
use Rattle.candidate_words.specs.Offered.{EachOffered, offered}
use Rattle.candidates.specs.Generate.{GenerateInput, made_of, generate_fault}
use Rattle.candidates.specs.Accepted.{accepted}

module _ (q : GenerateInput) (room₁ room₂ : ℕ) (z : generate_fault q room₁ room₂ ≡ 0) where
  few : length (tables_of q.tables) ≤ max_tables
  few = ltb-false max_tables (length (tables_of q.tables)) (accepted q room₁ room₂ z).few-tables

  pub made-offered : EachOffered (made_of q)
  unfolding levels_out
  made-offered =
      offered q.keys (tables_of q.tables) few q.trigger (entries_of q.over)
      (λ e m. ltb-false max_over_level e.level (any-no level_out (entries_of q.over) (accepted q room₁ room₂ z).levels e m))

  pub made-few : length (made_of q) ≤ max_candidates
  made-few =
      let entries = ltb-false max_over_budget (length (entries_of q.over)) (accepted q room₁ room₂ z).few-entries in
      omega (arith, (all_bounded q.keys (tables_of q.tables) few q.trigger (entries_of q.over)).few)
