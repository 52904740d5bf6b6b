-- The fields of a line by their places in it: what is known once some fields are read and the next begins at a place. Pairs has the same over fields alone, which the code goes by.
use Rattle.std.specs.Prelude.{◌≡◌, Some, None, ℕ, ◌+◌, ◌-◌, ◌≤◌, ◌<◌, Bool, true, false, List, [], ◌++◌, take, drop, ltb}
use Rattle.std.proofs.Common.{◌∙◌, arith, ltb-true, ltb-false}
use Rattle.std.proofs.Math.Path.{refl}
use Rattle.std.proofs.Math.Bool.{and-false}
use Rattle.std.proofs.Math.ListN.{length, set}
use Rattle.decisions.specs.Decision.{decision_width}
use Rattle.columns.specs.Columns.{columns, form_of}
use Rattle.replay_text.specs.Lines.{comma, fields_of, find_of}
use Rattle.replay_text.specs.Lines.Fields.{field-more, field-last}
use Rattle.log_fields.specs.Line.{number_in, reads, words_in}
use Rattle.log_fields.specs.Line.Pairs as fields
use Rattle.log_fields.specs.Line.Pairs.{next}

-- from a place on there is a field at least
some : (line : List ℕ) (at : ℕ) → reads [] (fields_of (drop at line)) ≡ false
unfolding reads
some line at = go (ltb (find_of line comma at) (length line)) refl
  where
    go : (t : Bool) → ltb (find_of line comma at) (length line) ≡ t → reads [] (fields_of (drop at line)) ≡ false
    go true e = rw (field-more line at _ refl (ltb-true _ _ e))
    go false e = rw (field-last line at (ltb-false _ _ e))

-- i fields are numbers of their columns and stand among the words, and the next one begins at a place
pub record Reading (line words : List ℕ) (at i : ℕ) : Type 0 where
  pub within : at ≤ length line
  pub few : i < decision_width
  pub long : length words ≡ decision_width
  pub good : reads columns (fields_of line) ≡ reads (drop i columns) (fields_of (drop at line))
  pub taken : words_in columns (fields_of line) ≡ take i words ++ words_in (drop i columns) (fields_of (drop at line))

module _ (line words : List ℕ) (at i : ℕ) (r : Reading line words at i) where
  of_fields : fields.Reading (fields_of line) (fields_of (drop at line)) words i
  of_fields = record { long = r.long; good = r.good; taken = r.taken }

  pub reading-more : (e w : ℕ) → i + 1 < decision_width → e ≡ find_of line comma at → e < length line → number_in (form_of i) (take (e - at) (drop at line)) ≡ Some w → Reading line (set words i w) (e + 1) (i + 1)
  reading-more e w k is h n =
      let m = fields.reading-more _ _ words i of_fields _ _ w r.few (field-more line at e is h) n in
      record { within = omega arith; few = k; long = m.long; good = m.good; taken = m.taken }

  -- a field that is no number of its column
  pub reading_bad : (e : ℕ) → e ≡ find_of line comma at → e < length line → number_in (form_of i) (take (e - at) (drop at line)) ≡ None → reads columns (fields_of line) ≡ false
  reading_bad e is h n = fields.reading_bad _ _ words i of_fields _ _ r.few (field-more line at e is h) n

  -- no more commas, and more columns
  pub reading-short : i + 1 < decision_width → length line ≤ find_of line comma at → reads columns (fields_of line) ≡ false
  unfolding reads
  reading-short k h = r.good ∙ rw (next i r.few, field-last line at h, next (i + 1) k, and-false)

-- a comma behind the last column
module _ (line words : List ℕ) (at : ℕ) (r : Reading line words at 13) where
  pub reading-over : find_of line comma at < length line → reads columns (fields_of line) ≡ false
  unfolding reads
  reading-over h = r.good ∙ rw (field-more line at _ refl h, some line (find_of line comma at + 1), and-false)
