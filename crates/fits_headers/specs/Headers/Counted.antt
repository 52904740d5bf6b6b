-- NAXIS2's card stands in 80 bytes whatever its number, so that both headers are known but for its digits.
use Rattle.std.specs.Prelude.{◌≡◌, refl, ℕ, take, drop}
use Rattle.std.proofs.Common.{◌∙◌, arith}
use Rattle.std.proofs.Math.Path.{ap}
use mathlib.Core.List.{List, ◌∷◌, ◌++◌, flat_map, append_assoc}
use Rattle.std.proofs.Math.ListN.{length, replicate, length-append}
use Rattle.std.proofs.lemmas.List.{length-replicate}
use Rattle.lists.specs.Flat.{flat_append}
use Rattle.numerals.specs.Numbers.{spelt, digits_up_to}
use Rattle.numerals.specs.Numbers.Digits.{spelt-within}
use Rattle.fits_headers.specs.Text.{ascii, space, right_in}
use Rattle.fits_headers.specs.Cards.{Card, ◌is◌, whole, END, field, image, blocks, header}
use Rattle.fits_headers.specs.Headers.{primary, table, column_cards, headers}

-- the cards before it and behind it
abbrev pub before : List ℕ
before = flat_map image (take 4 (table 0))

abbrev pub behind : List ℕ
behind = flat_map image (drop 5 (table 0)) ++ END

primary-length : length (header primary) ≡ 2880
unfolding header blocks image field flat_map digits_up_to
primary-length = refl

before-length : length before ≡ 320
unfolding image field flat_map digits_up_to
before-length = refl

behind-length : length behind ≡ 3200
unfolding image field column_cards flat_map digits_up_to
behind-length = refl

header-split : (a b : List Card) (c : Card) → header (a ++ c ∷ b) ≡ blocks space (flat_map image a ++ (image c ++ (flat_map image b ++ END)))
unfolding header flat_map
header-split a b c = ap (blocks space) (rw (flat_append image a (c ∷ b), append_assoc, append_assoc))

module _ (n : ℕ) where
  digits : length (right_in 20 (spelt n)) ≡ 20
  digits = simp (length-append, length-replicate) (omega (arith, spelt-within n))

  -- its keyword, its number, 50 spaces
  pub count-parts : image ("NAXIS2" is whole n) ≡ ascii "NAXIS2  = " ++ (right_in 20 (spelt n) ++ replicate 50 space)
  unfolding image field
  count-parts = rw digits

  pub count-length : length (image ("NAXIS2" is whole n)) ≡ 80
  count-length = rw count-parts (simp (length-append, length-replicate) (omega (arith, spelt-within n)))

  -- what fills the second block of the table's header up
  pub headers-parts : headers n ≡ header primary ++ (before ++ (image ("NAXIS2" is whole n) ++ (behind ++ replicate 2160 space)))
  unfolding headers blocks column_cards
  headers-parts =
      let c = image ("NAXIS2" is whole n) in
      let l : length (before ++ (c ++ behind)) ≡ 3600 = omega (arith, length-append before (c ++ behind), length-append c behind, before-length, behind-length, count-length) in
      let t : header (table n) ≡ before ++ (c ++ (behind ++ replicate 2160 space)) = header-split (take 4 (table 0)) (drop 5 (table 0)) ("NAXIS2" is whole n) ∙ rw (l, append_assoc, append_assoc) in
      ap (λ (l : List ℕ). header primary ++ l) t

  -- three blocks
  pub headers-length : length (headers n) ≡ 8640
  headers-length =
      let c = image ("NAXIS2" is whole n) in
      let f = replicate 2160 space in
      rw headers-parts (omega (arith, length-append (header primary) (before ++ (c ++ (behind ++ f))), length-append before (c ++ (behind ++ f)), length-append c (behind ++ f), length-append behind f, length-replicate 2160 space, primary-length, before-length, behind-length, count-length))
