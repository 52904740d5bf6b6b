-- That the places are the headers; place by place; and that each has 80 bytes.
use Rattle.std.specs.Prelude.{◌≡◌, refl, length, replicate, ltb, eqb}
use Rattle.std.proofs.Common.{◌∙◌, ltb-true}
use Prim.Native.Nat.{ℕ, suc, ◌+◌, ◌-◌, ◌≤◌, ◌<◌}
use Rattle.std.proofs.Math.Numerals.{add-one}
use native.Mathlib.Omega.{arith}
use mathlib.Core.List.{List, [], ◌++◌, flat_map}
use Rattle.lists.specs.Tests.{by-test}
use Rattle.lists.specs.Records.{tabulate}
use Rattle.numerals.specs.Numbers.{digits_up_to}
use Rattle.fits_headers.specs.Text.{space}
use Rattle.fits_headers.specs.Cards.{◌is◌, whole, field, image, blocks, header}
use Rattle.fits_headers.specs.Headers.{primary, column_cards, headers}
use Rattle.fits_headers.specs.Headers.Counted.{before, behind, count-length, headers-parts}
use Rattle.fits_headers.specs.Places.{fronts, front_card, count_card, place_card, places_from}
use Rattle.fits_headers.specs.Places.Fronts.{front_length}

laid : (n : ℕ) → header primary ++ (before ++ (image ("NAXIS2" is whole n) ++ (behind ++ replicate 2160 space))) ≡ places_from n 0
unfolding places_from place_card count_card front_card fronts tabulate flat_map headers header blocks image field column_cards digits_up_to
laid n = refl

pub headers-places : (n : ℕ) → headers n ≡ places_from n 0
headers-places n = headers-parts n ∙ laid n

module _ (n k : ℕ) where
  pub places-more : k < 108 → places_from n k ≡ place_card n k ++ places_from n (k + 1)
  unfolding places_from tabulate flat_map
  places-more h = let e : 108 - k ≡ suc (108 - (k + 1)) = omega arith in rw (e, add-one k)

  pub places-end : 108 ≤ k → places_from n k ≡ []
  unfolding places_from tabulate flat_map
  places-end h = let e : 108 - k ≡ 0 = omega arith in rw e

pub place-length : (n k : ℕ) → k < 108 → length (place_card n k) ≡ 80
unfolding place_card count_card
place-length n k h =
    by-test P (eqb k 40) _ _ (λ _. count-length n) λ _.
    by-test P (ltb k 5) _ _ (λ e. front_length k (omega (arith, ltb-true k 5 e))) λ _.
    by-test P (ltb k 36) (replicate 80 space) _ (λ _. refl) λ _.
    by-test P (ltb k 81) _ (replicate 80 space) (λ e. front_length (k - 31) (omega (arith, ltb-true k 81 e))) (λ _. refl)
  where
    P : List ℕ → Type 0
    P l = length l ≡ 80
