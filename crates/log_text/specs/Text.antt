-- The log as text, a line to each decision, oldest first: what is refused, the log that is read, and the report of the lines that are none. Definitions only.
pub mod Bytes
pub mod Steps
pub mod Report
use Rattle.std.specs.Prelude.{ℕ, suc, ◌-◌, Bool, cond, not, ◌||◌, length, drop, get_or, ltb, eqb}
use mathlib.Core.List.{List, [], ◌∷◌, ◌++◌, flat_map}
use Rattle.refusals.specs.Refusals.{Check, ◌gives◌, first_fault, none, too_many, bad_record, no_room, bad_log}
use Rattle.lists.specs.Any.{any_of}
use Rattle.decisions.specs.Decision.{decision_width}
use Rattle.decision_log.specs.declared.DecisionLog.{DecisionLog}
use Rattle.decision_log.specs.Log.{empty_log, max_kept, log_bad}
use Rattle.replay_text.specs.Lines.{LF, comma, lines_of, fields_of}
use Rattle.text_writers.specs.Rows.{row_of}
use Rattle.log_fields.specs.Line.{DecisionLine, line_of}
use Rattle.refusals.specs.Written.{Written, written_of, written_out}

-- 4,096 lines of eight numbers of 20 digits, six of 16, thirteen commas, CR and LF
abbrev pub most : ℕ
most = 1110016

abbrev pub read_line : List ℕ → DecisionLine
read_line line = line_of (fields_of line)

abbrev pub is_bad : List ℕ → Bool
is_bad line = not (read_line line).good

-- 4: more lines than a log keeps, or more bytes than so many good lines can have
unfoldable pub too_long : List ℕ → Bool
too_long text = ltb most (length text) || ltb max_kept (length (lines_of text))

-- ---- the log that is read

-- 10, 4, 5
abbrev pub read_checks : List ℕ → ℕ → List Check
read_checks text n =
    log_bad empty_log n gives bad_log ∷ too_long text gives too_many ∷ any_of is_bad (lines_of text) gives bad_record ∷ []

unfoldable pub read_fault : List ℕ → ℕ → ℕ
read_fault text n = first_fault (read_checks text n)

unfoldable pub words_of : List (List ℕ) → List ℕ
words_of lines = flat_map (λ (l : List ℕ). (read_line l).words) lines

-- from place 0 on; the sequence is the newest decision's, 0 for none
abbrev pub log_of : List (List ℕ) → DecisionLog
log_of lines = record { first = 0; count = length lines; sequence = get_or (words_of lines) (length (words_of lines) - decision_width) 0 }

-- its refusal, and the log, the empty one beside a refusal
pub record TextRead : Type 0 where
  pub refusal : ℕ
  pub log : DecisionLog

unfoldable pub read_of : List ℕ → ℕ → TextRead
read_of text n = record { refusal = read_fault text n; log = cond (eqb (read_fault text n) none) (log_of (lines_of text)) empty_log }

unfoldable pub read_out : List ℕ → List ℕ → List ℕ
read_out text words =
    cond (eqb (read_fault text (length words)) none) (words_of (lines_of text) ++ drop (length (words_of (lines_of text))) words) words

-- ---- the report: number and refusal of each refused line, or 0 and 4 where the text is too long

abbrev pub refused_line : ℕ → ℕ → List ℕ
refused_line number refusal = row_of comma LF (number ∷ refusal ∷ [])

unfoldable pub bad_from : ℕ → List (List ℕ) → List ℕ
bad_from n [] = []
bad_from n (l ∷ ls) = cond (is_bad l) (refused_line n bad_record) [] ++ bad_from (suc n) ls

unfoldable pub report_of : List ℕ → List ℕ
report_of text = cond (too_long text) (refused_line 0 too_many) (bad_from 1 (lines_of text))

-- 9
unfoldable pub report_fault : List ℕ → ℕ → ℕ
report_fault text room = first_fault (ltb room (length (report_of text)) gives no_room ∷ [])

abbrev pub reported_of : List ℕ → ℕ → Written
reported_of text room = written_of (report_fault text room) (report_of text)

abbrev pub report_out : List ℕ → List ℕ → List ℕ
report_out text out = written_out (report_fault text (length out)) (report_of text) out
