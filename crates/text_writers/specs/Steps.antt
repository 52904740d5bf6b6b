-- A number's last digit, a number's bytes with the one behind it, and the numbers of a row from a place on.
use Rattle.std.specs.Prelude.{◌≡◌, List, [], ◌∷◌, ◌++◌, ℕ, ◌+◌, ◌-◌, ◌%◌, ◌^◌, ◌≤◌, ◌<◌, length, drop, get_or, set}
use Rattle.std.proofs.Math.Numerals.{add-one}
use Rattle.std.proofs.Common.{arith, length-append}
use Rattle.std.proofs.Math.ListN.{length-drop}
use Rattle.std.proofs.Math.Seq.{drop-cons, append_snoc}
use Rattle.lists.specs.Writes.{Filled, filled_put}
use Rattle.numerals.specs.Numbers.{spelt}
use Rattle.numerals.specs.Numbers.Digits.{leading, spelt-last, spelt-within}
use Rattle.text_writers.specs.Rows.{behind, row_of}

pub filled_digit : (old : List ℕ) (at : ℕ) (mid new : List ℕ) (i n : ℕ) → n < 2 ^ 64 → new ≡ set mid (at + i) (48 + n % 10) → Filled old at (leading n) mid (at + i) → Filled old at (spelt n) new (at + (i + 1))
filled_digit old at mid new i n h e f = rw (spelt-last n h) (filled_put old at (leading n) mid new i _ f e)

pub ended-few : (old : List ℕ) (at n b : ℕ) (new : List ℕ) (r : ℕ) → Filled old at (spelt n ++ (b ∷ [])) new (at + r) → r ≤ 21
ended-few old at n b new r f = omega (arith, f.ends, length-append (spelt n) (b ∷ []), spelt-within n)

module _ (between last : ℕ) (ns : List ℕ) (i : ℕ) where
  pub row_more : i < length ns → row_of between last (drop i ns) ≡ (spelt (get_or ns i 0) ++ (behind between last (length ns - (i + 1)) ∷ [])) ++ row_of between last (drop (i + 1) ns)
  unfolding row_of
  row_more h = rw (append_snoc, drop-cons ns i 0 h, length-drop, add-one i)
