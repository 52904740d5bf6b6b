-- A decision and its fourteen words: sequence, three pressures, dominant, tier, candidates considered, chosen kind, level, batch length, predicted bytes, three reliefs. Definitions only.
pub mod Good
pub mod RoundTrip
use Rattle.std.specs.Prelude.{Option, None, Some, ℕ, ◌+◌, ◌-◌, ◌^◌, Bool, false, cond, ◌&&◌, List, [], ◌∷◌, length, get_or, leb, ltb, eqb}
use Rattle.std.specs.Float.{binary64}
use Rattle.std.specs.Float.Ieee.{of_bits, to_bits}
use Rattle.kinds.specs.declared.vector.PressureVector.{PressureVector}
use Rattle.kinds.specs.declared.vector.PressureSource.{PressureSource}
use Rattle.kinds.specs.declared.vector.PressureSource.TheVariants as Source
use Rattle.kinds.specs.Numbers.{dominant_number, tier_number, kind_number, kind_level, kind_length}
use Rattle.kinds.specs.declared.tier.SelectionTier.{SelectionTier}
use Rattle.kinds.specs.declared.tier.SelectionTier.TheVariants as Tier
use Rattle.kinds.specs.declared.kind.CandidateKind.{CandidateKind}
use Rattle.kinds.specs.declared.kind.CandidateKind.TheVariants.{L0, LevelBatch, TrivialMove}
use Rattle.decisions.specs.declared.SchedulingDecision.{SchedulingDecision}

abbrev pub decision_width : ℕ
decision_width = 14

unfoldable pub decision_words : SchedulingDecision → List ℕ
decision_words d =
    d.sequence
    ∷ to_bits binary64 d.pressure.l0 ∷ to_bits binary64 d.pressure.deep_debt ∷ to_bits binary64 d.pressure.read
    ∷ dominant_number d.dominant ∷ tier_number d.tier ∷ d.candidates_considered
    ∷ kind_number d.chosen ∷ kind_level d.chosen ∷ kind_length d.chosen ∷ d.predicted_rewrite_bytes
    ∷ to_bits binary64 d.l0_relief ∷ to_bits binary64 d.debt_relief ∷ to_bits binary64 d.read_relief ∷ []

-- ---- which words are a decision

unfoldable pub chosen_good : ℕ → ℕ → ℕ → Bool
chosen_good k l n =
    cond (ltb k 2) (eqb l 0 && eqb n 0)
    (cond (eqb k 2) (leb l (2 ^ 32 - 1))
    (cond (eqb k 3) (leb l (2 ^ 32 - 1) && eqb n 0) false))

unfoldable pub is_decision : List ℕ → Bool
is_decision ws =
    eqb (length ws) decision_width
    && (leb (get_or ws 4 0) 3 && (leb (get_or ws 5 0) 3 && chosen_good (get_or ws 7 0) (get_or ws 8 0) (get_or ws 9 0)))

-- ---- reading back: from a number up to 3 to its case

abbrev pub case_of : {A : Type 0} → ℕ → A → A → A → A → A
case_of n a b c d = cond (eqb n 0) a (cond (eqb n 1) b (cond (eqb n 2) c d))

unfoldable pub source_from : ℕ → PressureSource
source_from n = case_of n Source.None Source.L0 Source.DeepDebt Source.Read

unfoldable pub tier_from : ℕ → SelectionTier
tier_from n = case_of n Tier.None Tier.L0 Tier.FocusContinued Tier.FocusReselected

unfoldable pub kind_from : ℕ → ℕ → ℕ → Option CandidateKind
kind_from k l n = case_of k None (Some L0) (Some (LevelBatch l n)) (Some (TrivialMove l))

-- the kind that three words say, and none where they say no kind
unfoldable pub chosen_from : ℕ → ℕ → ℕ → Option CandidateKind
chosen_from k l n = cond (chosen_good k l n) (kind_from k l n) None

-- three floats, one to each pressure, from a word on
abbrev pub floats_at : List ℕ → ℕ → PressureVector
floats_at ws i =
    record { l0 = of_bits binary64 (get_or ws i 0); deep_debt = of_bits binary64 (get_or ws (i + 1) 0); read = of_bits binary64 (get_or ws (i + 2) 0) }

unfoldable pub decision_in : List ℕ → SchedulingDecision
decision_in ws =
    record {
      sequence = get_or ws 0 0;
      pressure = floats_at ws 1;
      dominant = source_from (get_or ws 4 0);
      tier = tier_from (get_or ws 5 0);
      candidates_considered = get_or ws 6 0;
      chosen = kind_from (get_or ws 7 0) (get_or ws 8 0) (get_or ws 9 0);
      predicted_rewrite_bytes = get_or ws 10 0;
      l0_relief = (floats_at ws 11).l0;
      debt_relief = (floats_at ws 11).deep_debt;
      read_relief = (floats_at ws 11).read;
    }

unfoldable pub read_of : List ℕ → Option SchedulingDecision
read_of ws = cond (is_decision ws) (Some (decision_in ws)) None

-- 01's values of what was read: its fourteen words, or none
abbrev pub read_words : Option SchedulingDecision → List ℕ
read_words (Some d) = decision_words d
read_words None = []
