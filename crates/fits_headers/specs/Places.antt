-- Both headers as the code lays them: 108 places of 80 bytes, of which 50 have a card. Definitions only.
pub mod Fronts
pub mod Steps
use Rattle.std.specs.Prelude.{ℕ, ◌-◌, ◌*◌, cond, take, drop, replicate, ltb, eqb}
use mathlib.Core.List.{List, ◌++◌, flat_map}
use Rattle.lists.specs.Records.{tabulate}
use Rattle.fits_headers.specs.Text.{space}
use Rattle.fits_headers.specs.Cards.{◌is◌, whole, image}
use Rattle.fits_headers.specs.Headers.{headers}

-- without NAXIS2's number
abbrev uncounted : List ℕ
uncounted = take 3210 (headers 0) ++ replicate 20 space ++ drop 3230 (headers 0)

-- the first 30 bytes of each card: five in the first block, 45 from the second on
unfoldable pub fronts : List ℕ
fronts = flat_map (λ (k : ℕ). take 30 (drop (80 * k) uncounted)) (tabulate (λ i. i) 5 0 ++ tabulate (λ i. i) 45 36)

unfoldable pub front_card : ℕ → List ℕ
front_card k = take 30 (drop (30 * k) fronts) ++ replicate 50 space

unfoldable pub count_card : ℕ → List ℕ
count_card n = image ("NAXIS2" is whole n)

unfoldable pub place_card : ℕ → ℕ → List ℕ
place_card n k =
    cond (eqb k 40) (count_card n)
    (cond (ltb k 5) (front_card k) (cond (ltb k 36) (replicate 80 space) (cond (ltb k 81) (front_card (k - 31)) (replicate 80 space))))

-- from the k-th place on
unfoldable pub places_from : ℕ → ℕ → List ℕ
places_from n k = flat_map (place_card n) (tabulate (λ i. i) (108 - k) k)
