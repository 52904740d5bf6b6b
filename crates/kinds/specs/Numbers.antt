-- 01's number, and its values, for each case of an enum. Definitions only.
use Rattle.std.specs.Prelude.{ℕ, List, [], ◌∷◌, Option, Some, None}
use Rattle.kinds.specs.declared.mode.GovernorMode.{GovernorMode}
use Rattle.kinds.specs.declared.mode.GovernorMode.TheVariants.{Balanced, ReadProtect, WriteEmergency}
use Rattle.kinds.specs.declared.vector.PressureSource.{PressureSource}
use Rattle.kinds.specs.declared.vector.PressureSource.TheVariants as Source
use Rattle.kinds.specs.declared.tier.SelectionTier.{SelectionTier}
use Rattle.kinds.specs.declared.tier.SelectionTier.TheVariants as Tier
use Rattle.kinds.specs.declared.kind.CandidateKind.{CandidateKind}
use Rattle.kinds.specs.declared.kind.CandidateKind.TheVariants as Kind

abbrev pub mode_number : GovernorMode → ℕ
mode_number Balanced = 0
mode_number ReadProtect = 1
mode_number WriteEmergency = 2

abbrev pub dominant_number : PressureSource → ℕ
dominant_number Source.None = 0
dominant_number Source.L0 = 1
dominant_number Source.DeepDebt = 2
dominant_number Source.Read = 3

abbrev pub tier_number : SelectionTier → ℕ
tier_number Tier.None = 0
tier_number Tier.L0 = 1
tier_number Tier.FocusContinued = 2
tier_number Tier.FocusReselected = 3

-- 1 and the number, or 0 and 0
abbrev pub option_numbers : Option ℕ → List ℕ
option_numbers None = 0 ∷ 0 ∷ []
option_numbers (Some n) = 1 ∷ n ∷ []

-- of a focus its level
abbrev pub focus_numbers : Option ℕ → List ℕ
focus_numbers = option_numbers

-- of a winner its place
abbrev pub winner_numbers : Option ℕ → List ℕ
winner_numbers = option_numbers

-- the number, level and length of what was chosen, 0 for none; a level or length that the kind lacks is 0
abbrev pub kind_number : Option CandidateKind → ℕ
kind_number None = 0
kind_number (Some Kind.L0) = 1
kind_number (Some (Kind.LevelBatch l n)) = 2
kind_number (Some (Kind.TrivialMove l)) = 3

abbrev pub kind_level : Option CandidateKind → ℕ
kind_level None = 0
kind_level (Some Kind.L0) = 0
kind_level (Some (Kind.LevelBatch l n)) = l
kind_level (Some (Kind.TrivialMove l)) = l

abbrev pub kind_length : Option CandidateKind → ℕ
kind_length None = 0
kind_length (Some Kind.L0) = 0
kind_length (Some (Kind.LevelBatch l n)) = n
kind_length (Some (Kind.TrivialMove l)) = 0
