-- `fits::put_rows` meets its contract. What is left to write is the cells of the kept words from the i-th on.
use Rattle.std.proofs.Common.{◌≡◌, ◌∙◌, ◌*◌, ◌%◌, ◌≤◌, ◌<◌, arith, length, get_or}
use Rattle.lists.specs.Writes.{fill_start, fill-part, fill_end}
use Rattle.columns.specs.Columns.{form_of}
use Rattle.decision_log.specs.Log.{kept_words}
use Rattle.decision_log.specs.Log.Kept.{kept-length, kept_word}
use Rattle.fits_cells.specs.Cells.{cell}
use Rattle.fits_cells.specs.Cells.Stored.{cell-length}
use Rattle.fits.specs.Rows.Steps.{cells-more, cells-end}
use Rattle.fits.proofs.put_rows.Goals as goal

pub loop-i-init : goal.loop-i-init
loop-i-init c = fill_start _ _ _

pub loop-i-preserved : goal.loop-i-preserved
loop-i-preserved c = let log = c.args.log in
    let words = c.args.words.now in
    let i = c.loop-i.i in
    let h : i < 14 * log.count = omega arith in
    let n : i < length (kept_words log words) = omega (arith, kept-length log words c.requires.0 0 log.count) in
    let w = kept_word log words c.requires.0 i h in
    let s : length (cell (form_of (i % 14)) (get_or (kept_words log words) i 0)) ≡ 8 = cell-length (form_of (i % 14)) (get_or (kept_words log words) i 0) in
    fill-part _ _ _ _ _ (cell (form_of (i % 14)) (get_or (kept_words log words) i 0)) _ _ _ (rw (cells-more (kept_words log words) i n) at c.loop-i.invariant)
    (record { ends = omega arith; stands = c.put_cell.ensures ∙ rw (c.kept_place-place.ensures, w) })

pub returns : goal.returns
returns c = let n : length (kept_words c.args.log c.args.words.now) ≤ c.loop-i.i = omega (arith, kept-length c.args.log c.args.words.now c.requires.0 0 c.args.log.count) in
    (fill_end _ _ _ _ _ (rw (cells-end _ _ n) at c.loop-i.invariant)).stands
