-- How long the log's table is, that it is whole blocks, and that its row k is the k-th oldest decision.
use Rattle.std.specs.Prelude.{◌≡◌, refl, ℕ, zero, suc, ◌+◌, ◌-◌, ◌*◌, ◌/◌, ◌%◌, ◌≤◌, ◌<◌, List, ◌++◌, take, drop, replicate}
use Rattle.std.proofs.Common.{sym, ◌∙◌, ap, zero-add, append_assoc, append-nil, length-append, take_at}
use native.Mathlib.Omega.{arith}
use Rattle.std.proofs.Math.ListN.{length}
use Rattle.std.proofs.lemmas.List.{length-replicate}
use Rattle.std.proofs.lemmas.List.Edits.{sets}
use Rattle.std.proofs.Math.Seq.{drop-append-add, drop-append_seam}
use Rattle.decisions.specs.Decision.{decision_width}
use Rattle.decision_log.specs.declared.DecisionLog.{DecisionLog}
use Rattle.decision_log.specs.Log.{kept_place, place_words, kept_from, kept_words}
use Rattle.decision_log.specs.Log.Kept.{place-length, kept_cons, kept-split, kept-length}
use Rattle.decision_log.specs.Log.Sound.{Sound}
use Rattle.lists.specs.Writes.{sets_append, sets_front}
use Rattle.fits_headers.specs.Cards.{blocks}
use Rattle.fits_headers.specs.Headers.{headers}
use Rattle.fits_headers.specs.Headers.Counted.{headers-length}
use Rattle.fits.specs.Rows.{cells_from, fits_of}
use Rattle.fits.specs.Rows.Steps.{cells-length, cells-append, cells-again}
use Rattle.fits.specs.File.{log_fits}

-- three blocks of headers, and as many data blocks as n rows fill
abbrev pub file_length : ℕ → ℕ
file_length n = 8640 + 2880 * ((112 * n + 2879) / 2880)

-- what fills the last block up
abbrev fill : ℕ → List ℕ
fill n = replicate (file_length n - (8640 + 112 * n)) 0

fill-length : (n : ℕ) → length (fill n) ≡ file_length n - (8640 + 112 * n)
fill-length n = length-replicate {A = ℕ} (file_length n - (8640 + 112 * n)) 0

padding : (m : ℕ) → (2880 - m % 2880) % 2880 ≡ 2880 * ((m + 2879) / 2880) - m
padding m = by (m % 2880) refl
  where
    by : (r : ℕ) → m % 2880 ≡ r → (2880 - r) % 2880 ≡ 2880 * ((m + 2879) / 2880) - m
    by zero e = let a : 2880 * ((m + 2879) / 2880) - m ≡ 0 = omega arith in rw a
    by (suc r) e = let a : (2880 - suc r) % 2880 ≡ 2880 - suc r = omega arith in rw a (omega arith)

module _ (ws : List ℕ) (n : ℕ) (e : length ws ≡ decision_width * n) where
  rows_long : length (cells_from 0 ws) ≡ 112 * n
  rows_long = omega (arith, cells-length 0 ws)

  -- headers, rows, zeros
  pub parts : fits_of ws ≡ headers n ++ (cells_from 0 ws ++ fill n)
  unfolding fits_of blocks
  parts =
      let r : length ws / decision_width ≡ n = omega arith in
      let p : (2880 - 112 * n % 2880) % 2880 ≡ file_length n - (8640 + 112 * n) = padding (112 * n) ∙ omega arith in
      rw (r, rows_long, p)

  pub fits-long : length (fits_of ws) ≡ file_length n
  fits-long =
      rw parts (omega (arith, length-append (headers n) (cells_from 0 ws ++ fill n), length-append (cells_from 0 ws) (fill n), fill-length n, headers-length n, rows_long))

  -- written one after the other
  pub written : (out : List ℕ) → file_length n ≤ length out
      → sets (sets (sets out 0 (headers n)) 8640 (cells_from 0 ws)) (8640 + 112 * n) (fill n) ≡ fits_of ws ++ drop (length (fits_of ws)) out
  written out h =
      let rows = cells_from 0 ws in
      let a : 8640 + 112 * n ≡ 8640 + length rows = omega (arith, rows_long) in
      let b : ◌≡◌ {A = ℕ} 8640 (0 + length (headers n)) = omega (arith, headers-length n) in
      ap (λ (k : ℕ). sets (sets (sets out 0 (headers n)) 8640 rows) k (fill n)) a
      ∙ sets_append rows (fill n) (sets out 0 (headers n)) 8640
      ∙ ap (λ (k : ℕ). sets (sets out 0 (headers n)) k (rows ++ fill n)) b
      ∙ sets_append (headers n) (rows ++ fill n) out 0
      ∙ ap (sets out 0) (sym parts)
      ∙ sets_front (fits_of ws) out (omega (arith, fits-long))

module _ (g : DecisionLog) (ws : List ℕ) (s : Sound g (length ws)) where
  kept : length (kept_words g ws) ≡ decision_width * g.count
  kept = kept-length g ws s.long 0 g.count

  pub log-length : length (log_fits g ws) ≡ file_length g.count
  log-length = fits-long (kept_words g ws) g.count kept

  pub log-written : (out : List ℕ) → file_length g.count ≤ length out
      → sets (sets (sets out 0 (headers g.count)) 8640 (cells_from 0 (kept_words g ws))) (8640 + 112 * g.count) (fill g.count)
      ≡ log_fits g ws ++ drop (length (log_fits g ws)) out
  log-written = written (kept_words g ws) g.count kept

  pub whole-blocks : length (log_fits g ws) % 2880 ≡ 0
  whole-blocks = omega (arith, log-length)

  -- 469,440 bytes hold every log's table
  pub most-enough : length (log_fits g ws) ≤ 469440
  most-enough = omega (arith, log-length, s.count)

  -- with no decisions there are the headers alone
  pub none_kept : g.count ≡ 0 → log_fits g ws ≡ headers 0
  unfolding fits_of blocks cells_from kept_from
  none_kept z = rw (z, append-nil)

  -- row k holds the words of the k-th kept decision, the oldest being the 0th
  pub row_at : (k : ℕ) → k < g.count → take 112 (drop (8640 + 112 * k) (log_fits g ws)) ≡ cells_from 0 (place_words ws (kept_place g k))
  row_at k h =
      let before = kept_from g ws 0 k in
      let row = place_words ws (kept_place g k) in
      let behind = kept_from g ws (suc k) (g.count - suc k) in
      let n : g.count ≡ k + suc (g.count - suc k) = omega arith in
      let kept-parts : kept_words g ws ≡ before ++ (row ++ behind) = ap (kept_from g ws 0) n ∙ kept-split g ws 0 k (suc (g.count - suc k)) ∙ rw (zero-add, kept_cons) in
      let first : length before ≡ decision_width * k = kept-length g ws s.long 0 k in
      let cells : cells_from 0 (kept_words g ws) ≡ cells_from 0 before ++ (cells_from 0 row ++ cells_from (length before + length row) behind) =
      ap (cells_from 0) kept-parts ∙ cells-append 0 before (row ++ behind) ∙ rw (zero-add, cells-append (length before) row behind, cells-again (length before) 0 row (omega arith)) in
      let long : length (cells_from 0 row) ≡ 112 = omega (arith, cells-length 0 row, place-length ws (kept_place g k) s.long (omega arith)) in
      let at : 8640 + 112 * k ≡ length (headers g.count) + length (cells_from 0 before) = omega (arith, headers-length g.count, cells-length 0 before) in
      rw (parts (kept_words g ws) g.count kept, cells, at, drop-append-add (headers g.count) _ _, append_assoc, drop-append_seam (cells_from 0 before) _, append_assoc) (take_at (cells_from 0 row) _ 112 long)
