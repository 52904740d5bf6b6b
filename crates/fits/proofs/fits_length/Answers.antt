-- `fits::fits_length` meets its contract.
use Rattle.std.proofs.Common.{sym, ◌∙◌, arith}
use Rattle.decision_log.specs.Log.Sound.{is_sound}
use Rattle.fits.specs.File.{length_fault}
use Rattle.fits.specs.File.Laws.{log-length}
use Rattle.fits.proofs.fits_length.Goals as goal

pub file_length-requires : goal.file_length-requires
file_length-requires c = let s = is_sound _ _ (sym c.log_bad.ensures ∙ c.if-log_bad.false) in omega arith

pub returns-clause-value : goal.returns-clause-value
unfolding length_fault
returns-clause-value c = let b = sym c.log_bad.ensures ∙ c.if-log_bad.false in
    let l = log-length _ c.args.words.now (is_sound _ _ b) in
    simp (b, c.file_length.ensures, l)
