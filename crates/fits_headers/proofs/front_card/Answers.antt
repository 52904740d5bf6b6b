-- `fits_headers::front_card` meets its contract. The text in the code is that of the definition.
use Rattle.std.proofs.Common.{◌≡◌, ◌+◌, ◌-◌, ◌*◌, arith}
use mathlib.Core.List.{flat_map}
use Rattle.lists.specs.Records.{tabulate}
use Rattle.numerals.specs.Numbers.{digits_up_to}
use Rattle.fits_headers.specs.Cards.{field, image, blocks, header}
use Rattle.fits_headers.specs.Headers.{column_cards, headers}
use Rattle.fits_headers.specs.Places.{fronts, front_card}
use Rattle.fits_headers.proofs.front_card.Goals as goal

pub returns : goal.returns
unfolding front_card fronts tabulate flat_map headers header blocks image field column_cards digits_up_to
returns c = let e : 30 * (c.args.k + 1) - 30 * c.args.k ≡ 30 = omega arith in
    rw (c.copy_from_slice.ensures.after, e)
