-- The log's three words beside its 57,344, and what the calls on them answer and leave. Definitions only.
pub mod Told
use Rattle.std.specs.Prelude.{ℕ, ◌-◌, ◌^◌, Bool, not, cond, List, [], ◌∷◌, length, get_or, eqb}
use Rattle.refusals.specs.Refusals.{◌gives◌, first_fault, none, bad_record, bad_log}
use Rattle.decisions.specs.Decision.{is_decision, decision_in}
use Rattle.decision_log.specs.declared.DecisionLog.{DecisionLog}
use Rattle.decision_log.specs.Log.{log_bad, kept_place}
use Rattle.recording.specs.Recording.{recorded_of, recorded_words}
use Rattle.log_text.specs.Text.{read_of, read_out}

abbrev pub is_head : List ℕ → Bool
is_head head = eqb (length head) 3

-- not three words are no log: a first place past all of them says so to the calls below
unfoldable pub head_of : List ℕ → DecisionLog
head_of head =
    cond (is_head head) (record { first = get_or head 0 0; count = get_or head 1 0; sequence = get_or head 2 0 })
    (record { first = 2 ^ 64 - 1; count = 0; sequence = 0 })

abbrev pub three_words : DecisionLog → List ℕ
three_words g = g.first ∷ g.count ∷ g.sequence ∷ []

abbrev pub place_of : ℕ → ℕ → ℕ
place_of first k = kept_place (record { first = first; count = 0; sequence = 0 }) k

-- ---- a decision added: 10, 5

unfoldable pub record_refusal : List ℕ → ℕ → List ℕ → ℕ
record_refusal head n d = first_fault (log_bad (head_of head) n gives bad_log ∷ not (is_decision d) gives bad_record ∷ [])

unfoldable pub record_head : List ℕ → ℕ → List ℕ → List ℕ
record_head head n d = cond (eqb (record_refusal head n d) none) (three_words (recorded_of (head_of head) n).log) head

unfoldable pub record_words : List ℕ → List ℕ → List ℕ → List ℕ
record_words head ws d = cond (eqb (record_refusal head (length ws) d) none) (recorded_words (head_of head) ws (decision_in d)) ws

-- ---- a log read from its text: 10 for the head, then what the text's call refuses

unfoldable pub read_refusal : List ℕ → List ℕ → ℕ → ℕ
read_refusal text head n = cond (is_head head) (read_of text n).refusal bad_log

unfoldable pub read_head : List ℕ → List ℕ → ℕ → List ℕ
read_head text head n = cond (eqb (read_refusal text head n) none) (three_words (read_of text n).log) head

unfoldable pub read_words : List ℕ → List ℕ → List ℕ → List ℕ
read_words text head ws = cond (is_head head) (read_out text ws) ws
