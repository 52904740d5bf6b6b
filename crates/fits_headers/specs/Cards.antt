-- A header (3.3.1, 4.1): cards of 80 bytes, each a keyword and its value in fixed format with no comment, then END, then spaces to the end of a block. Definitions only.
use Rattle.std.specs.Prelude.{ℕ, ◌-◌, ◌%◌, length, replicate}
use Prim.Native.String.{String}
use mathlib.Core.List.{List, ◌++◌, flat_map}
use Rattle.numerals.specs.Numbers.{spelt}
use Rattle.fits_headers.specs.Text.{ascii, space, left_in, right_in}

pub data Value : Type 0 where
  T : Value
  whole : ℕ → Value
  text : String → Value

-- the value field, from byte 11 on: T in byte 30 (4.2.2); a number's last digit in byte 30 (4.2.3); a text behind a quote in byte 11, filled up to eight characters (4.2.1)
unfoldable pub field : Value → List ℕ
field T = right_in 20 (ascii "T")
field (whole n) = right_in 20 (spelt n)
field (text s) = ascii "'" ++ left_in 8 (ascii s) ++ ascii "'"

pub record Card : Type 0 where
  pub keyword : List ℕ
  pub value : Value

infix 70 ◌is◌
abbrev pub ◌is◌ : String → Value → Card
k is v = record { keyword = ascii k; value = v }

-- an indexed keyword (4.1.2.1): TTYPE1, TTYPE2 ..
abbrev pub numbered : String → ℕ → Value → Card
numbered k i v = record { keyword = ascii k ++ spelt i; value = v }

-- the keyword in bytes 1 to 8, "= " in bytes 9 and 10, the value field, spaces up to byte 80 (4.1.2)
unfoldable pub image : Card → List ℕ
image c = left_in 80 (left_in 8 c.keyword ++ ascii "= " ++ field c.value)

abbrev pub END : List ℕ
END = left_in 80 (ascii "END")

-- filled up to whole blocks of 2,880 bytes (3.1)
unfoldable pub blocks : ℕ → List ℕ → List ℕ
blocks fill bytes = bytes ++ replicate ((2880 - length bytes % 2880) % 2880) fill

unfoldable pub header : List Card → List ℕ
header cs = blocks space (flat_map image cs ++ END)
