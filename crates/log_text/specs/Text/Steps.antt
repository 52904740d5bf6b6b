-- The text, one line at a time, and what is made of it all.
use Rattle.std.specs.Prelude.{◌≡◌, refl, ℕ, suc, ◌+◌, ◌-◌, ◌*◌, ◌≤◌, ◌<◌, Bool, true, false, cond, not, ◌||◌, drop, get_or, ltb}
use Rattle.std.proofs.Common.{sym, ◌∙◌, add-one, length-append, take_at}
use native.Mathlib.Omega.{arith}
use mathlib.Core.List.{List, [], ◌∷◌, ◌++◌, flat_map}
use Rattle.std.proofs.Math.ListN.{length, take}
use borrow.Author.Tests.{eq-eqb, lt-ltb, le-ltb, ltb-false}
use Rattle.lists.specs.Any.{any_of}
use Rattle.lists.specs.Flat.{flat_length}
use Rattle.lists.specs.Tests.{neither}
use Rattle.lists.specs.Writes.{Filled, sets_front}
use Rattle.decisions.specs.Decision.{decision_width}
use Rattle.decision_log.specs.Log.{empty_log, max_kept, log_words}
use Rattle.decision_log.specs.Log.Sound.{is_sound}
use Rattle.refusals.specs.Refusals.{none, too_many, bad_record, no_room}
use Rattle.refusals.specs.Checks.{none_found}
use Rattle.refusals.specs.Written.{Counts, with_counts}
use Rattle.numerals.specs.Numbers.Digits.{spelt-within}
use Rattle.replay_text.specs.Lines.{lines_of, fields_of}
use Rattle.text_writers.specs.Rows.{row_of}
use Rattle.log_fields.specs.Line.Pairs.{words_long}
use Rattle.log_text.specs.Text.{most, read_line, is_bad, too_long, read_checks, read_fault, words_of, read_of, read_out, refused_line, bad_from, report_of, report_fault, reported_of, report_out}

-- ---- the words

pub line_long : (l : List ℕ) → length (read_line l).words ≡ decision_width
line_long l = words_long (fields_of l)

pub words-length : (ls : List (List ℕ)) → length (words_of ls) ≡ decision_width * length ls
unfolding words_of
words-length ls = flat_length (λ (l : List ℕ). (read_line l).words) decision_width line_long ls

module _ (ls : List (List ℕ)) where
  pub words_more : (l : List ℕ) (rest : List (List ℕ)) → ls ≡ l ∷ rest → words_of ls ≡ (read_line l).words ++ words_of rest
  unfolding words_of flat_map
  words_more l rest e = rw e

  pub words-end : ls ≡ [] → words_of ls ≡ []
  unfolding words_of flat_map
  words-end e = rw e

-- ---- the report's rows

-- a number has at most 20 digits, and a byte behind it
pub row-few : (n refusal : ℕ) → length (refused_line n refusal) ≤ 42
unfolding row_of
row-few n refusal = simp length-append (omega (arith, spelt-within n, spelt-within refusal))

pub row-some : (n refusal : ℕ) → 0 < length (refused_line n refusal)
unfolding row_of
row-some n refusal = simp length-append (omega arith)

-- of a line that may be good
pub maybe_few : (n : ℕ) (good : Bool) → length (cond (not good) (refused_line n bad_record) []) ≤ 42
maybe_few n true = omega arith
maybe_few n false = row-few n bad_record

module _ (n : ℕ) (ls : List (List ℕ)) where
  pub bad_more : (l : List ℕ) (rest : List (List ℕ)) → ls ≡ l ∷ rest → bad_from n ls ≡ cond (is_bad l) (refused_line n bad_record) [] ++ bad_from (n + 1) rest
  unfolding bad_from
  bad_more l rest e = rw (e, add-one)

  pub bad_end : ls ≡ [] → bad_from n ls ≡ []
  unfolding bad_from
  bad_end e = rw e

-- a line is bad where a row is written
pub bad_any : (n : ℕ) (ls : List (List ℕ)) → any_of is_bad ls ≡ ltb 0 (length (bad_from n ls))
unfolding any_of bad_from
bad_any n [] = refl
bad_any n (l ∷ ls) = go (is_bad l) (bad_any (suc n) ls)
  where
    go : (t : Bool) → any_of is_bad ls ≡ ltb 0 (length (bad_from (suc n) ls)) → t || any_of is_bad ls ≡ ltb 0 (length (cond t (refused_line n bad_record) [] ++ bad_from (suc n) ls))
    go true h = let k : 0 < length (refused_line n bad_record ++ bad_from (suc n) ls) = rw length-append (omega (arith, row-some n bad_record)) in sym (lt-ltb 0 _ k)
    go false h = h

-- ---- a text that is not refused

pub long-within : (text : List ℕ) → too_long text ≡ false → (length text ≤ most) × (length (lines_of text) ≤ max_kept)
unfolding too_long
long-within text e = let p = neither _ _ e in (ltb-false most (length text) p.0, ltb-false max_kept (length (lines_of text)) p.1)

pub record Readable (text : List ℕ) (n : ℕ) : Type 0 where
  pub room : n ≡ log_words
  pub bytes : length text ≤ most
  pub lines : length (lines_of text) ≤ max_kept
  pub good : any_of is_bad (lines_of text) ≡ false

pub is_readable : (text : List ℕ) (n : ℕ) → read_fault text n ≡ none → Readable text n
unfolding read_fault
is_readable text n e =
    let f = none_found (read_checks text n) tt e in
    let w = long-within text f.1.0 in
    record { room = (is_sound empty_log n f.0).long; bytes = w.0; lines = w.1; good = f.1.1.0 }

-- what is written, and the log of it
module _ (text words new : List ℕ) (n : ℕ) (e : read_fault text (length words) ≡ none) (is : n ≡ length (lines_of text)) (f : Filled words 0 (words_of (lines_of text)) new (decision_width * n)) where
  stands : new ≡ words_of (lines_of text) ++ drop (length (words_of (lines_of text))) words
  stands =
      let r = is_readable text (length words) e in
      f.stands ∙ sets_front (words_of (lines_of text)) words (omega (arith, words-length (lines_of text)))

  pub words-read : new ≡ read_out text words
  unfolding read_out
  words-read = rw (eq-eqb _ _ e) stands

  pub log-read : record { refusal = none; log = record { first = 0; count = n; sequence = get_or (take (decision_width * n) new) (decision_width * n - decision_width) 0 } } ≡ read_of text (length words)
  unfolding read_of
  log-read =
      let l : length (words_of (lines_of text)) ≡ decision_width * n = omega (arith, f.ends) in
      let t : take (decision_width * n) new ≡ words_of (lines_of text) = rw stands (take_at (words_of (lines_of text)) (drop (length (words_of (lines_of text))) words) (decision_width * n) l) in
      rw (e, t, l, is)

-- ---- the report in a buffer

pub report_long : (text : List ℕ) → too_long text ≡ true → report_of text ≡ refused_line 0 too_many
unfolding report_of
report_long text e = rw e

pub report_lines : (text : List ℕ) → too_long text ≡ false → report_of text ≡ bad_from 1 (lines_of text)
unfolding report_of
report_lines text e = rw e

module _ (text old new : List ℕ) where
  pub reported : (n : ℕ) → Filled old 0 (report_of text) new n → n ≤ length old
      → (record { refusal = none; length = n } ≡ reported_of text (length old)) × ((new ≡ report_out text old) × Counts n new)
  unfolding report_fault
  reported n f h =
      let l : n ≡ length (report_of text) = omega (arith, f.ends) in
      let r : length (report_of text) ≤ length old = omega arith in
      let e = le-ltb (length old) (length (report_of text)) r in
      with_counts (report_fault text (length old)) (report_of text) old (record { refusal = none; length = n }) new (simp (l, e), simp e (f.stands ∙ sets_front (report_of text) old r))

  pub unreported : length old < length (report_of text) → new ≡ old
      → (record { refusal = no_room; length = 0 } ≡ reported_of text (length old)) × ((new ≡ report_out text old) × Counts 0 new)
  unfolding report_fault
  unreported h k =
      let e = lt-ltb (length old) (length (report_of text)) h in
      with_counts (report_fault text (length old)) (report_of text) old (record { refusal = no_room; length = 0 }) new (simp e, simp e k)
