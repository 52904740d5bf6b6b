-- Texts as bytes: a text's ASCII codes, and what is filled up with spaces. Definitions only.
use Rattle.std.specs.Prelude.{ℕ, ◌-◌, List, [], ◌∷◌, ◌++◌, length, replicate}
use Prim.Native.Char.{code}
use Prim.Native.String.{String, [] as none, ◌∷◌ as ◌then◌}

abbrev pub ascii : String → List ℕ
ascii none = []
ascii (c then s) = code c ∷ ascii s

abbrev pub space : ℕ
space = 32

-- filled up with spaces to n bytes, the text standing left or right
abbrev pub left_in : ℕ → List ℕ → List ℕ
left_in n bytes = bytes ++ replicate (n - length bytes) space

abbrev pub right_in : ℕ → List ℕ → List ℕ
right_in n bytes = replicate (n - length bytes) space ++ bytes
