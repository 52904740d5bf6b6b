-- What L0 gives, by its tests.
use Rattle.std.specs.Prelude.{◌≡◌, Bool, true, false, ◌&&◌, cond, List, [], ◌∷◌, ℕ, leb, ltb, length}
use Rattle.std.proofs.Common.{◌∙◌}
use Rattle.records.specs.Tables.{tables_of}
use Rattle.faults.specs.Tables.{too_many_tables}
use Rattle.levels.specs.Levels.{places_of}
use Rattle.writers.specs.Writers.{merged_of}
use Rattle.l0_words.specs.Words.{offer}
use Rattle.l0_words.specs.L0.{l0_offers, lent_l0}

module _ (tables keys : List ℕ) (trigger : ℕ) where
  pub l0-past : too_many_tables tables ≡ true → lent_l0 tables keys trigger ≡ []
  unfolding lent_l0
  l0-past e = simp e

  pub l0-within : too_many_tables tables ≡ false → lent_l0 tables keys trigger ≡ l0_offers keys (tables_of tables) trigger
  unfolding lent_l0
  l0-within e = simp e

  pub l0_due : (n : ℕ) (b : Bool) → too_many_tables tables ≡ false → n ≡ length (places_of 0 (tables_of tables)) → b ≡ ltb 0 n && leb trigger n
      → lent_l0 tables keys trigger ≡ cond b (offer 1 0 0 (merged_of keys (tables_of tables) (places_of 1 (tables_of tables)) (places_of 0 (tables_of tables))) ∷ []) []
  unfolding l0_offers
  l0_due n b few e t = l0-within few ∙ rw (t, e)
