-- A card by its front, byte by byte, and NAXIS2's digits right in their field.
use Rattle.std.specs.Prelude.{◌≡◌, take, get_or, set, replicate}
use Rattle.std.proofs.Math.Path.{refl}
use Rattle.std.proofs.Common.{sym, ◌∙◌, ap, length-append, take_at}
use Prim.Native.Nat.{ℕ, suc, ◌+◌, ◌-◌, ◌*◌, ◌≤◌, ◌<◌}
use Rattle.std.proofs.Math.Numerals.{add-one}
use native.Mathlib.Omega.{arith}
use mathlib.Core.List.{List, ◌++◌, flat_map}
use Rattle.std.proofs.Math.ListN.{length, drop, length-take, length-drop}
use Rattle.std.proofs.lemmas.List.{length-replicate, replicate-append-replicate}
use Rattle.std.proofs.lemmas.List.Edits.{sets, sets-eq}
use Rattle.std.proofs.Math.Seq.{length-take-le, set_at, take-suc, append_snoc, get_or-drop}
use Rattle.lists.specs.Records.{tabulate}
use Rattle.numerals.specs.Numbers.{spelt, digits_up_to}
use Rattle.numerals.specs.Numbers.Digits.{spelt-within}
use Rattle.fits_headers.specs.Text.{ascii, space}
use Rattle.fits_headers.specs.Cards.{field, image, blocks, header}
use Rattle.fits_headers.specs.Headers.{column_cards, headers}
use Rattle.fits_headers.specs.Headers.Counted.{count-parts}
use Rattle.fits_headers.specs.Places.{fronts, front_card, count_card}

fronts-length : length fronts ≡ 1500
unfolding fronts tabulate flat_map headers header blocks image field column_cards digits_up_to
fronts-length = refl

-- j bytes of it are laid
unfoldable pub front_begun : ℕ → ℕ → List ℕ
front_begun k j = take j (drop (30 * k) fronts) ++ replicate (80 - j) space

module _ (k : ℕ) where
  pub front-start : replicate 80 space ≡ front_begun k 0
  unfolding front_begun
  front-start = refl

  pub front-more : (j : ℕ) → k < 50 → j < 30 → set (front_begun k j) j (get_or fronts (30 * k + j) 0) ≡ front_begun k (j + 1)
  unfolding front_begun
  front-more j h i =
      let d = drop (30 * k) fronts in
      let l : j < length d = simp (length-drop, fronts-length) (omega arith) in
      let p : length (take j d) ≡ j = length-take-le j d (omega arith) in
      let e : 80 - j ≡ suc (80 - (j + 1)) = omega arith in
      rw (e, set_at (take j d) space (replicate (80 - (j + 1)) space) _ j p, add-one, take-suc d j 0 l, append_snoc, get_or-drop (30 * k) fronts j 0)

  pub front-end : (j : ℕ) → j ≤ 30 → 30 ≤ j → front_begun k j ≡ front_card k
  unfolding front_begun front_card
  front-end j h i = let e : j ≡ 30 = omega arith in rw e

  pub front_length : k < 50 → length (front_card k) ≡ 80
  unfolding front_card
  front_length h = simp (length-append, length-take, length-drop, fronts-length, length-replicate) (omega arith)

naxis2 : front_card 9 ≡ ascii "NAXIS2  = " ++ replicate 70 space
unfolding front_card fronts tabulate flat_map headers header blocks image field column_cards digits_up_to
naxis2 = refl

pub counted : (n : ℕ) → sets (front_card 9) (30 - length (spelt n)) (spelt n) ≡ count_card n
unfolding count_card
counted n =
    let ds = spelt n in
    let h = spelt-within n in
    let p = ascii "NAXIS2  = " ++ replicate (20 - length ds) space in
    let l : length p ≡ 30 - length ds = simp length-replicate (omega arith) in
    let e : 30 - length ds + length ds ≡ 30 = omega arith in
    let s : ◌≡◌ {A = ℕ} 70 (20 - length ds + (50 + length ds)) = omega arith in
    let c : ascii "NAXIS2  = " ++ replicate 70 space ≡ p ++ replicate (50 + length ds) space = ap (λ (r : List ℕ). ascii "NAXIS2  = " ++ r) (ap (λ (m : ℕ). replicate m space) s ∙ sym (replicate-append-replicate (20 - length ds) (50 + length ds) space)) in
    rw naxis2 (sets-eq ds (ascii "NAXIS2  = " ++ replicate 70 space) (30 - length ds) (omega arith) ∙ rw (e, ap (take (30 - length ds)) c ∙ take_at p (replicate (50 + length ds) space) (30 - length ds) l) (sym (count-parts n)))
