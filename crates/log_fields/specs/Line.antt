-- A line of the log's text: a field to each column, and the decision's words that they are. Definitions only.
pub mod Pairs
pub mod Places
pub mod Short
use Rattle.std.specs.Prelude.{ℕ, Option, Some, None, Bool, true, false, cond, ◌&&◌, List, [], ◌∷◌, replicate}
use Rattle.decisions.specs.Decision.{decision_width}
use Rattle.numerals.specs.Numbers.{is_value, value_of, decimal_of, bits_of}
use Rattle.columns.specs.Columns.{Form, D, K, Column, columns}

-- 16 hex digits for a float, else decimal digits
unfoldable pub number_in : Form → List ℕ → Option ℕ
number_in D field = bits_of field
number_in K field = decimal_of field

-- as many fields as columns, each a number of its column's form
unfoldable pub reads : List Column → List (List ℕ) → Bool
reads [] [] = true
reads [] (f ∷ fs) = false
reads (c ∷ cs) [] = false
reads (c ∷ cs) (f ∷ fs) = is_value (number_in c.form f) && reads cs fs

unfoldable pub words_in : List Column → List (List ℕ) → List ℕ
words_in (c ∷ cs) (f ∷ fs) = value_of (number_in c.form f) ∷ words_in cs fs
words_in (c ∷ cs) [] = []
words_in [] fs = []

-- whether a line is fourteen numbers, and which; zeros where it is not
pub record DecisionLine : Type 0 where
  pub good : Bool
  pub words : List ℕ

-- the fourteen words; zeros for a line that is none
unfoldable pub line_of : List (List ℕ) → DecisionLine
line_of fs = record { good = reads columns fs; words = cond (reads columns fs) (words_in columns fs) (replicate decision_width 0) }

-- the words of a line that is good
abbrev pub words_of_line : DecisionLine → Option (List ℕ)
words_of_line l = cond l.good (Some l.words) None
