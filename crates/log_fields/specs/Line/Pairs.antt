-- The fields of a line, one at a time.
use Rattle.std.specs.Prelude.{◌≡◌, Option, Some, None, MatchOption, cond, ℕ, suc, ◌+◌, ◌-◌, ◌≤◌, ◌<◌, Bool, false, List, [], ◌∷◌, ◌++◌, take, drop, get_or, replicate}
use Rattle.std.specs.Borrow.{Bor}
use Rattle.std.specs.Option.{is_some, unwrap_or}
use Rattle.std.proofs.Math.Path.{refl}
use Rattle.std.proofs.Common.{sym, ◌∙◌, ap, arith, true≢false, length-drop, drop-cons}
use Rattle.std.proofs.Math.Numerals.{add-one}
use Rattle.std.proofs.Math.Bool.{true}
use Rattle.std.proofs.Math.ListN.{length, set, length-set}
use Rattle.std.proofs.Math.Seq.{take-suc-set, take_all, append_snoc}
use mathlib.Core.List.{append-nil}
use Rattle.lists.specs.Tests.{both, by-test}
use Rattle.decisions.specs.Decision.{decision_width}
use Rattle.numerals.specs.Numbers.{is_value, decimal_of, bits_of}
use Rattle.columns.specs.Columns.{Form, D, K, Column, columns, form_of, is_float}
use Rattle.replay_text.specs.Lines.{comma, fields_of, find_of}
use Rattle.replay_text.specs.Lines.Fields.{field-last}
use Rattle.log_fields.specs.Line.{number_in, reads, words_in, DecisionLine, line_of, words_of_line}

-- ---- a field by its column's form

pub float_number : (f : Form) (field : List ℕ) → is_float f ≡ true → number_in f field ≡ bits_of field
unfolding number_in
float_number D field e = refl
float_number K field e = absurd (true≢false (sym e))

pub decimal-number : (f : Form) (field : List ℕ) → is_float f ≡ false → number_in f field ≡ decimal_of field
unfolding number_in
decimal-number D field e = absurd (true≢false e)
decimal-number K field e = refl

-- ---- what is left of the columns

abbrev pub past : Column
past = record { name = ""; form = D }

pub next : (i : ℕ) → i < decision_width → drop i columns ≡ get_or columns i past ∷ drop (i + 1) columns
next i h = rw add-one (drop-cons columns i past h)

-- ---- the reading: i fields are numbers of their columns and stand among the words, and the others are left

pub record Reading (fs left : List (List ℕ)) (words : List ℕ) (i : ℕ) : Type 0 where
  pub long : length words ≡ decision_width
  pub good : reads columns fs ≡ reads (drop i columns) left
  pub taken : words_in columns fs ≡ take i words ++ words_in (drop i columns) left

module _ (fs left : List (List ℕ)) (words : List ℕ) (i : ℕ) (r : Reading fs left words i) where
  pub reading-more : (f : List ℕ) (rest : List (List ℕ)) (w : ℕ) → i < decision_width → left ≡ f ∷ rest → number_in (form_of i) f ≡ Some w → Reading fs rest (set words i w) (i + 1)
  unfolding reads words_in
  reading-more f rest w k is n =
      let m : i < length words = omega (arith, r.long) in
      record { long = length-set words i w ∙ r.long; good = r.good ∙ rw (next i k, is, n); taken = r.taken ∙ rw (next i k, is, n, add-one i, take-suc-set words i w m, append_snoc) }

  -- a field that is no number of its column
  pub reading_bad : (f : List ℕ) (rest : List (List ℕ)) → i < decision_width → left ≡ f ∷ rest → number_in (form_of i) f ≡ None → reads columns fs ≡ false
  unfolding reads
  reading_bad f rest k is n = r.good ∙ rw (next i k, is, n)

  -- no more fields, and more columns
  pub reading-short : i < decision_width → left ≡ [] → reads columns fs ≡ false
  unfolding reads
  reading-short k is = r.good ∙ rw (next i k, is)

-- a line that is none
pub no_line : (line : List ℕ) → reads columns (fields_of line) ≡ false → record { good = false; words = replicate decision_width 0 } ≡ line_of (fields_of line)
unfolding line_of
no_line line e = rw e

-- fields that are no line
pub no_words : (fs : List (List ℕ)) → reads columns fs ≡ false → words_of_line (line_of fs) ≡ None
unfolding line_of
no_words fs e = rw e

-- ---- behind the last column

module _ (fs left : List (List ℕ)) (words : List ℕ) (r : Reading fs left words 14) where
  -- a field more
  pub reading-over : (f : List ℕ) (rest : List (List ℕ)) → left ≡ f ∷ rest → reads columns fs ≡ false
  unfolding reads
  reading-over f rest is = r.good ∙ rw is

  pub reading_line : left ≡ [] → record { good = true; words = words } ≡ line_of fs
  unfolding reads words_in line_of
  reading_line is =
      let g : reads columns fs ≡ true = r.good ∙ rw is in
      let t : words_in columns fs ≡ words = r.taken ∙ rw append-nil (take_all 14 words (omega (arith, r.long))) in
      rw (g, t)

  pub reading_all : left ≡ [] → words_of_line (line_of fs) ≡ Some words
  reading_all is = sym (ap (λ (l : DecisionLine). words_of_line l) (reading_line is))

-- ---- the last column, of a line with no more commas

module _ (line words : List ℕ) (at : ℕ) (r : Reading (fields_of line) (fields_of (drop at line)) words 13) (h : length line ≤ find_of line comma at) where
  last : fields_of (drop at line) ≡ take (length line - at) (drop at line) ∷ []
  last = field-last line at h ∙ rw (take_all (length line - at) (drop at line) (simp length-drop (omega arith)))

  pub last_bad : number_in (form_of 13) (take (length line - at) (drop at line)) ≡ None → reads columns (fields_of line) ≡ false
  last_bad n = reading_bad _ _ words 13 r _ [] (omega arith) last n

  pub last-good : (w : ℕ) → number_in (form_of 13) (take (length line - at) (drop at line)) ≡ Some w → record { good = true; words = set words 13 w } ≡ line_of (fields_of line)
  last-good w n = reading_line _ [] (set words 13 w) (reading-more _ _ words 13 r _ [] w (omega arith) last n) refl

-- whether a field came behind the last column decides
pub reading-last : (fs left new : List (List ℕ)) (words : List ℕ) (r : Option (Bor (List ℕ))) → Reading fs left words 14 → MatchOption r ((left ≡ []) × (new ≡ [])) (λ x. left ≡ x.now ∷ new)
    → words_of_line (line_of fs) ≡ cond (is_some r) None (Some words)
reading-last fs left new words None r m = reading_all fs left words r m.0
reading-last fs left new words (Some x) r m = no_words fs (reading-over fs left words r x.now new m)

-- ---- how many words a line has

words_many : (cs : List Column) (fs : List (List ℕ)) → reads cs fs ≡ true → length (words_in cs fs) ≡ length cs
unfolding reads words_in
words_many [] [] e = refl
words_many [] (f ∷ fs) e = refl
words_many (c ∷ cs) [] e = absurd (true≢false (sym e))
words_many (c ∷ cs) (f ∷ fs) e = ap suc (words_many cs fs (both (is_value (number_in c.form f)) (reads cs fs) e).1)

pub words_long : (fs : List (List ℕ)) → length (line_of fs).words ≡ decision_width
unfolding line_of
words_long fs = by-test (λ (ws : List ℕ). length ws ≡ decision_width) (reads columns fs) _ _ (words_many columns fs) (λ _. refl)

-- ---- a line's words, or none

pub zeros_or_words : (fs : List (List ℕ)) → unwrap_or (words_of_line (line_of fs)) (replicate decision_width 0) ≡ (line_of fs).words
unfolding line_of
zeros_or_words fs = go (reads columns fs)
  where
    go : (t : Bool) → unwrap_or (cond t (Some (cond t (words_in columns fs) (replicate decision_width 0))) None) (replicate decision_width 0) ≡ cond t (words_in columns fs) (replicate decision_width 0)
    go true = refl
    go false = refl

pub good_some : (l : DecisionLine) → is_some (words_of_line l) ≡ l.good
good_some l = go l.good
  where
    go : (t : Bool) → is_some (cond t (Some l.words) None) ≡ t
    go true = refl
    go false = refl
