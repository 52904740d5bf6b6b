-- `fits::write_fits` meets its contract.
use Rattle.std.proofs.Common.{◌≡◌, ◌≤◌, false, arith, length, ltb, le-ltb}
use Rattle.fits.specs.File.{log_fits, fits_fault}
use Rattle.fits.specs.File.Laws.{file_length, log-written}
use Rattle.fits.specs.File.Sound.{has_length}
use Rattle.fits.proofs.write_fits.Goals as goal

pub overflow_mul-end : goal.overflow_mul-end
overflow_mul-end c = let h = has_length _ c.args.words.now _ c.in_ok-length.ensures.refusal c.in_ok-length.ensures.value in omega arith

pub overflow_add-end : goal.overflow_add-end
overflow_add-end c = let h = has_length _ c.args.words.now _ c.in_ok-length.ensures.refusal c.in_ok-length.ensures.value in omega arith

pub put_rows-requires : goal.put_rows-requires
put_rows-requires c = let h = has_length _ c.args.words.now _ c.in_ok-length.ensures.refusal c.in_ok-length.ensures.value in (h.sound.long, h.sound.count)

pub put_zeros-requires : goal.put_zeros-requires
put_zeros-requires c = let h = has_length _ c.args.words.now _ c.in_ok-length.ensures.refusal c.in_ok-length.ensures.value in (omega arith, omega arith)

pub returns-clause-out_after : goal.returns-clause-out_after
unfolding fits_fault
returns-clause-out_after c = let a = c.args in
    let h = has_length a.log a.words.now _ c.in_ok-length.ensures.refusal c.in_ok-length.ensures.value in
    let room : file_length a.log.count ≤ length a.out.now = omega arith in
    let fits : ltb (length a.out.now) (length (log_fits a.log a.words.now)) ≡ false = le-ltb _ _ (omega arith) in
    rw (h.good, fits, c.put_zeros.ensures, c.put_rows.ensures, c.put_headers.ensures, h.blocks) (log-written _ a.words.now h.sound a.out.now room)
