-- A call's checks are a list, in 01's order with 02's 11 in it (1, 10, 4, 5, 11, 6, 7, 8, 2, 3, 9): whether the fault is there, and its number. The first that is there is given, and 0 where none is.
use Rattle.std.specs.Prelude.{ℕ, Bool, cond, List, [], ◌∷◌}

pub record Check : Type 0 where
  pub found : Bool
  pub number : ℕ

infix 70 ◌gives◌
abbrev pub ◌gives◌ : Bool → ℕ → Check
b gives n = record { found = b; number = n }

abbrev pub first_fault : List Check → ℕ
first_fault [] = 0
first_fault (c ∷ cs) = cond c.found c.number (first_fault cs)

abbrev pub none : ℕ
none = 0

abbrev pub bad_state : ℕ
bad_state = 1

abbrev pub too_large : ℕ
too_large = 2

abbrev pub counter_full : ℕ
counter_full = 3

abbrev pub too_many : ℕ
too_many = 4

abbrev pub bad_record : ℕ
bad_record = 5

abbrev pub bad_level : ℕ
bad_level = 6

abbrev pub bad_vector : ℕ
bad_vector = 7

abbrev pub bad_estimate : ℕ
bad_estimate = 8

abbrev pub no_room : ℕ
no_room = 9

abbrev pub bad_log : ℕ
bad_log = 10

abbrev pub duplicate_number : ℕ
duplicate_number = 11
