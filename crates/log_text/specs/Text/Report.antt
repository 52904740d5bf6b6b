-- How long the report is, and that a text is refused where it has one.
use Rattle.std.specs.Prelude.{◌≡◌, refl, ℕ, suc, ◌+◌, ◌*◌, ◌≤◌, ◌<◌, Bool, true, false, cond, List, [], ◌∷◌, ◌++◌, length}
use Rattle.std.proofs.Common.{sym, ◌∙◌, arith, length-append, drop_of_length-le, le-ltb, ltb-true, ltb-false}
use Rattle.lists.specs.Any.{any_of}
use Rattle.lists.specs.Tests.{by-test}
use Rattle.numerals.specs.Numbers.Digits.{digits-few}
use Rattle.decision_log.specs.Log.{empty_log, log_bad}
use Rattle.refusals.specs.Refusals.{none, too_many, bad_record}
use Rattle.refusals.specs.Checks.{none_found}
use Rattle.replay_text.specs.Lines.{lines_of}
use Rattle.text_writers.specs.Rows.{row_of}
use Rattle.log_text.specs.Text.{is_bad, too_long, read_checks, read_fault, refused_line, bad_from, report_of, report_fault}
use Rattle.log_text.specs.Text.Steps.{row-some, bad_any, long-within}

row_seven : (n refusal : ℕ) → n < 10000 → refusal < 10 → length (refused_line n refusal) ≤ 7
unfolding row_of
row_seven n refusal h k = simp length-append (omega (arith, digits-few 3 19 n h, digits-few 0 19 refusal k))

bad_few : (n : ℕ) (ls : List (List ℕ)) → n + length ls ≤ 10000 → length (bad_from n ls) ≤ 7 * length ls
unfolding bad_from
bad_few n [] h = omega arith
bad_few n (l ∷ ls) h = go (is_bad l) (bad_few (suc n) ls (omega arith))
  where
    go : (t : Bool) → length (bad_from (suc n) ls) ≤ 7 * length ls → length (cond t (refused_line n bad_record) [] ++ bad_from (suc n) ls) ≤ 7 * suc (length ls)
    go true r = rw length-append (omega (arith, row_seven n bad_record (omega arith) (omega arith)))
    go false r = omega arith

-- at most 4,096 rows of at most 7 bytes
pub report_most : (text : List ℕ) → length (report_of text) ≤ 28672
unfolding report_of
report_most text =
    by-test (λ (l : List ℕ). length l ≤ 28672) (too_long text) _ _ (λ _. omega (arith, row_seven 0 too_many (omega arith) (omega arith))) λ e.
    let w = (long-within text e).1 in
    omega (arith, bad_few 1 (lines_of text) (omega arith))

-- a buffer of that many bytes is never refused
pub report_enough : (text : List ℕ) (room : ℕ) → 28672 ≤ room → report_fault text room ≡ none
unfolding report_fault
report_enough text room h = rw (le-ltb room (length (report_of text)) (omega (arith, report_most text)))

-- a text that is read has nothing to report
pub report_none : (text : List ℕ) (n : ℕ) → read_fault text n ≡ none → report_of text ≡ []
unfolding read_fault report_of
report_none text n e =
    let f = none_found (read_checks text n) tt e in
    rw f.1.0 (drop_of_length-le (bad_from 1 (lines_of text)) {i = 0} (ltb-false 0 _ (sym (bad_any 1 (lines_of text)) ∙ f.1.1.0)))

-- and one that is refused has something, unless the log's room is refused
pub report_some : (text : List ℕ) (n : ℕ) → log_bad empty_log n ≡ false → (read_fault text n ≡ none → ⊥) → 0 < length (report_of text)
unfolding read_fault report_of
report_some text n e f = go (too_long text) (any_of is_bad (lines_of text)) refl refl
  where
    go : (s t : Bool) → too_long text ≡ s → any_of is_bad (lines_of text) ≡ t → 0 < length (cond s (refused_line 0 too_many) (bad_from 1 (lines_of text)))
    go true t p q = row-some 0 too_many
    go false true p q = ltb-true 0 _ (sym (bad_any 1 (lines_of text)) ∙ q)
    go false false p q = absurd (f (rw (e, p, q)))
