-- The governor's calls on numbers and words: what the numbers are to the calls below, and what is answered where they are none. Definitions only.
pub mod Kinds
use Rattle.std.specs.Prelude.{ℕ, Option, Some, None, cond, List, length, eqb, Float}
use Rattle.refusals.specs.Refusals.{none}
use Rattle.kinds.specs.declared.kind.CandidateKind.{CandidateKind}
use Rattle.kinds.specs.declared.kind.CandidateKind.TheVariants.{L0, LevelBatch, TrivialMove}
use Rattle.kinds.specs.declared.vector.PressureVector.{PressureVector}
use Rattle.pressure.specs.declared.PressureSample.{PressureSample}
use Rattle.state.specs.declared.GovernorState.{GovernorState}
use Rattle.state.specs.State.{Observed, fresh_of, focused_of, answered}
use Rattle.report.specs.Counters.{chosen_of}
use Rattle.windows.specs.declared.EngineSample.{EngineSample}
use Rattle.windows.specs.declared.ReadAmpStats.{ReadAmpStats}
use Rattle.state_words.specs.StateWords.{not_a_state, no_such_case, focus_good, focus_from, state_words}

-- ---- numbers as what they are to the calls below

abbrev pub vector_of : Float → Float → Float → PressureVector
vector_of l0 debt read = record { l0 = l0; deep_debt = debt; read = read }

abbrev pub sample_of : ℕ → ℕ → Float → Float → ℕ → PressureSample
sample_of count trigger ratio probed backlog =
    record { l0_count = count; l0_write_stall_trigger = trigger; max_level_debt_ratio = ratio; tables_probed_per_get = probed; backlog_levels = backlog }

abbrev pub engine_sample_of : ℕ → ℕ → Float → ℕ → EngineSample
engine_sample_of count trigger ratio backlog =
    record { l0_count = count; l0_write_stall_trigger = trigger; max_level_debt_ratio = ratio; backlog_levels = backlog }

abbrev pub read_amp_of : ℕ → ℕ → ℕ → ℕ → ℕ → ReadAmpStats
read_amp_of gets memtable immutable l0 leveled =
    record { gets_total = gets; resolved_in_memtable = memtable; resolved_in_immutable = immutable; l0_tables_probed = l0; leveled_tables_probed = leveled }

-- ---- a fresh governor: its words are lent, or nothing is written

unfoldable pub fresh_refusal : List ℕ → ℕ
fresh_refusal ws = cond (eqb (length ws) 28) none not_a_state

unfoldable pub fresh_after : List ℕ → ℕ → List ℕ
fresh_after ws clock = cond (eqb (length ws) 28) (state_words (fresh_of clock)) ws

-- ---- a kind, a focus by their numbers; any other number is refused, and nothing changes

-- a chosen kind is 1 L0, 2 a batch, 3 a move
unfoldable pub kind_by : ℕ → ℕ → ℕ → Option CandidateKind
kind_by kind level n = cond (eqb kind 1) (Some L0) (cond (eqb kind 2) (Some (LevelBatch level n)) (cond (eqb kind 3) (Some (TrivialMove level)) None))

unfoldable pub chosen_by : GovernorState → ℕ → ℕ → ℕ → Observed
chosen_by s kind level n =
    cond (eqb kind 1) (answered none s (chosen_of s L0))
    (cond (eqb kind 2) (answered none s (chosen_of s (LevelBatch level n)))
    (cond (eqb kind 3) (answered none s (chosen_of s (TrivialMove level)))
    (answered no_such_case s s)))

unfoldable pub focused_by : GovernorState → ℕ → ℕ → ℕ → Observed
focused_by s flag level streak =
    cond (focus_good flag level) (answered none s (focused_of s (focus_from flag level streak))) (answered no_such_case s s)
