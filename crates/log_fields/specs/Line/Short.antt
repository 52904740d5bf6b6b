-- A good line has at most 269 bytes: eight numbers of 20 digits, six of 16, and thirteen commas.
use Rattle.std.specs.Prelude.{◌≡◌, refl, Option, Some, None, ℕ, ◌+◌, ◌≤◌, true, List, [], ◌∷◌, length}
use Rattle.std.proofs.Common.{sym, arith, true≢false}
use Rattle.lists.specs.Tests.{both}
use Rattle.numerals.specs.Numbers.{is_value, value_of, decimal_of, bits_of}
use Rattle.numerals.specs.Numbers.Accepted.{bits_accepted}
use Rattle.numerals.specs.Numbers.Short.{decimal-short}
use Rattle.columns.specs.Columns.{Form, D, K, Column, columns}
use Rattle.replay_text.specs.Lines.{fields_of}
use Rattle.replay_text.specs.Lines.Lengths.{bytes_with, fields_bytes}
use Rattle.log_fields.specs.Line.{number_in, reads, line_of}

-- the most bytes of a field
abbrev most_of : Form → ℕ
most_of D = 16
most_of K = 20

-- of a field to each column, with a byte behind each: one more than a line's
abbrev most_in : List Column → ℕ
most_in [] = 0
most_in (c ∷ cs) = most_of c.form + 1 + most_in cs

a-value : (m : Option ℕ) → is_value m ≡ true → m ≡ Some (value_of m)
a-value (Some n) e = refl
a-value None e = absurd (true≢false (sym e))

field-short : (f : Form) (field : List ℕ) → is_value (number_in f field) ≡ true → length field ≤ most_of f
unfolding number_in
field-short D field e = omega (arith, (bits_accepted field _ (a-value (bits_of field) e)).sixteen)
field-short K field e = decimal-short field _ (a-value (decimal_of field) e)

fields_short : (cs : List Column) (fs : List (List ℕ)) → reads cs fs ≡ true → bytes_with 1 fs ≤ most_in cs
unfolding reads bytes_with
fields_short [] [] e = omega arith
fields_short [] (f ∷ fs) e = absurd (true≢false (sym e))
fields_short (c ∷ cs) [] e = omega arith
fields_short (c ∷ cs) (f ∷ fs) e =
    let p = both (is_value (number_in c.form f)) (reads cs fs) e in
    omega (arith, field-short c.form f p.0, fields_short cs fs p.1)

pub good-short : (line : List ℕ) → (line_of (fields_of line)).good ≡ true → length line ≤ 269
unfolding line_of
good-short line e = omega (arith, fields_bytes line, fields_short columns (fields_of line) e)
