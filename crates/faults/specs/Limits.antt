-- The capacities of the lent words, in records, and the largest values in a record. Definitions only.
use Rattle.std.specs.Prelude.{ℕ, ◌-◌, ◌^◌}

abbrev pub max_tables : ℕ
max_tables = 1024

abbrev pub max_over_budget : ℕ
max_over_budget = 16

abbrev pub max_candidates : ℕ
max_candidates = 145

-- in one candidate
abbrev pub max_numbers : ℕ
max_numbers = 1024

abbrev pub max_batch : ℕ
max_batch = 8

abbrev pub max_level : ℕ
max_level = 2 ^ 32 - 1

-- the level below an over-budget one has to be a level too
abbrev pub max_over_level : ℕ
max_over_level = 2 ^ 32 - 2

abbrev pub max_size : ℕ
max_size = 2 ^ 40

abbrev pub max_rewrite : ℕ
max_rewrite = 2 ^ 50

abbrev pub max_age : ℕ
max_age = 2 ^ 53
