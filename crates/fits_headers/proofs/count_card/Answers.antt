-- `fits_headers::count_card` meets its contract.
use Rattle.std.proofs.Common.{◌≡◌, ◌∙◌, arith, length}
use Rattle.numerals.specs.Numbers.{spelt}
use Rattle.numerals.specs.Numbers.Digits.{spelt-within}
use Rattle.fits_headers.specs.Places.Fronts.{counted}
use Rattle.fits_headers.proofs.count_card.Goals as goal

pub overflow_sub-digits : goal.overflow_sub-digits
overflow_sub-digits c = omega (arith, c.put_number-digits.ensures.ends, spelt-within c.args.rows)

pub returns : goal.returns
returns c = let d : c.put_number-digits.result ≡ length (spelt c.args.rows) = omega (arith, c.put_number-digits.ensures.ends) in
    c.put_number.ensures.stands ∙ rw (c.front_card-card.ensures, d) (counted _)
