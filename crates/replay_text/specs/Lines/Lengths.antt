-- How long a text is by its lines, and a line by its fields.
use Prim.Native.Nat.{ℕ, suc, ◌+◌, ◌≤◌}
use Rattle.std.proofs.Common.{arith}
use mathlib.Core.List.{List, [], ◌∷◌, ◌++◌}
use Rattle.std.proofs.Math.ListN.{length, length-append}
use Rattle.std.specs.Prelude.{eqb}
use Rattle.lists.specs.Tests.{by-test}
use Rattle.replay_text.specs.Lines.{LF, comma, parts_from, without_cr, last_line, lines_of, fields_of}

-- the bytes of all parts, and n more for each
unfoldable pub bytes_with : ℕ → List (List ℕ) → ℕ
bytes_with n [] = 0
bytes_with n (p ∷ ps) = length p + n + bytes_with n ps

-- n for each part make up for its separator and for what an end drops of it; k are left over behind the last
module _ (x n k : ℕ) (ended : List ℕ → List ℕ) (last : List ℕ → List (List ℕ)) (h : (p : List ℕ) → length p + 1 ≤ length (ended p) + n) (z : (p : List ℕ) → length p + k ≤ bytes_with n (last p)) where
  parts-bytes : (begun l : List ℕ) → length begun + length l + k ≤ bytes_with n (parts_from x ended last begun l)
  unfolding parts_from bytes_with
  parts-bytes begun [] = omega (arith, z begun)
  parts-bytes begun (b ∷ bs) =
      by-test (λ (ps : List (List ℕ)). length begun + suc (length bs) + k ≤ bytes_with n ps) (eqb b x) _ _ (λ _. omega (arith, h begun, parts-bytes [] bs)) λ _.
      omega (arith, length-append begun (b ∷ []), parts-bytes (begun ++ (b ∷ [])) bs)

-- a comma less than fields
pub fields_bytes : (line : List ℕ) → length line + 1 ≤ bytes_with 1 (fields_of line)
unfolding bytes_with
fields_bytes line = omega (arith, parts-bytes comma 1 1 (λ (f : List ℕ). f) (λ (f : List ℕ). f ∷ []) (λ _. omega arith) (λ _. omega arith) [] line)

without_most : (l : List ℕ) → length l ≤ length (without_cr l) + 1
unfolding without_cr
without_most [] = omega arith
without_most (b ∷ []) = omega arith
without_most (b ∷ c ∷ bs) = omega (arith, without_most (c ∷ bs))

last-most : (l : List ℕ) → length l + 0 ≤ bytes_with 2 (last_line l)
unfolding bytes_with
last-most [] = omega arith
last-most (b ∷ bs) = omega arith

-- a CR and an LF to each line at most
pub lines-bytes : (text : List ℕ) → length text ≤ bytes_with 2 (lines_of text)
lines-bytes text = omega (arith, parts-bytes LF 2 0 without_cr last_line (λ l. omega (arith, without_most l)) last-most [] text)

last-few : (l : List ℕ) → length (last_line l) ≤ length l
last-few [] = omega arith
last-few (b ∷ bs) = omega arith

few_from : (begun bytes : List ℕ) → length (parts_from LF without_cr last_line begun bytes) ≤ length begun + length bytes
unfolding parts_from
few_from begun [] = omega (arith, last-few begun)
few_from begun (b ∷ bs) =
    by-test (λ (ls : List (List ℕ)). length ls ≤ length begun + suc (length bs)) (eqb b LF) _ _ (λ _. omega (arith, few_from [] bs)) λ _.
    omega (arith, few_from (begun ++ (b ∷ [])) bs, length-append begun (b ∷ []))

-- no more lines than bytes
pub lines-few : (text : List ℕ) → length (lines_of text) ≤ length text
lines-few text = omega (arith, few_from [] text)
