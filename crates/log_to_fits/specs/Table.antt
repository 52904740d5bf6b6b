-- The table that is written of a text's log is that of its lines' words, line by line.
use Rattle.std.specs.Prelude.{◌≡◌, refl, ℕ, ◌*◌, List, ◌++◌, length, drop}
use Rattle.std.proofs.Common.{take_at}
use Rattle.refusals.specs.Refusals.{none}
use Rattle.decisions.specs.Decision.{decision_width}
use Rattle.decision_log.specs.Log.Kept.{kept-front}
use Rattle.replay_text.specs.Lines.{lines_of}
use Rattle.fits.specs.Rows.{fits_of}
use Rattle.fits.specs.File.{log_fits}
use Rattle.log_text.specs.Text.{read_fault, words_of, log_of, read_of, read_out}
use Rattle.log_text.specs.Text.Steps.{words-length, is_readable}

pub text-table : (text words : List ℕ) → read_fault text (length words) ≡ none → log_fits (read_of text (length words)).log (read_out text words) ≡ fits_of (words_of (lines_of text))
unfolding read_of read_out
text-table text words e =
    let lines = lines_of text in
    let ws = words_of lines in
    let r = is_readable text (length words) e in
    let n : length ws ≡ decision_width * length lines = words-length lines in
    let k = kept-front (log_of lines) (ws ++ drop (length ws) words) refl r.lines in
    rw (e, k, take_at ws (drop (length ws) words) (decision_width * length lines) n)
