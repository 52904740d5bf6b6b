-- Lines and fields of RFC 4180 without quotes: a line ends with LF or CRLF, the last end is optional, and fields are parted by commas. Definitions only.
pub mod Fields
pub mod Left
pub mod Lengths
pub mod NextLine
pub mod Steps
use Rattle.std.specs.Prelude.{Option, Some, None, ℕ, suc, ◌+◌, ◌-◌, cond, ◌&&◌, List, [], ◌∷◌, ◌++◌, length, drop, get_or, leb, ltb, eqb}
use Rattle.replay_text.specs.declared.reader.LinePart.{LinePart}

abbrev pub LF : ℕ
LF = 10

abbrev pub CR : ℕ
CR = 13

abbrev pub comma : ℕ
comma = 44

-- the parts between separators, `begun` being the bytes of the first part that stand before the rest: what becomes of a part that a separator ended, and of the last, which none ends
unfoldable pub parts_from : ℕ → (List ℕ → List ℕ) → (List ℕ → List (List ℕ)) → List ℕ → List ℕ → List (List ℕ)
parts_from x ended last begun [] = last begun
parts_from x ended last begun (b ∷ bs) =
    cond (eqb b x) (ended begun ∷ parts_from x ended last [] bs) (parts_from x ended last (begun ++ (b ∷ [])) bs)

-- a line without the CR that stands directly before its LF
unfoldable pub without_cr : List ℕ → List ℕ
without_cr [] = []
without_cr (b ∷ []) = cond (eqb b CR) [] (b ∷ [])
without_cr (b ∷ c ∷ bs) = b ∷ without_cr (c ∷ bs)

-- what the input's end makes of the bytes of a line that no LF ended: none if there are none
abbrev pub last_line : List ℕ → List (List ℕ)
last_line [] = []
last_line (b ∷ bs) = (b ∷ bs) ∷ []

abbrev pub lines_of : List ℕ → List (List ℕ)
lines_of bytes = parts_from LF without_cr last_line [] bytes

-- the fields of a line: one more than its commas
abbrev pub fields_of : List ℕ → List (List ℕ)
fields_of line = parts_from comma (λ (f : List ℕ). f) (λ (f : List ℕ). f ∷ []) [] line

-- ---- places in a text

-- how many bytes stand before the first x, or all of them
unfoldable pub before : ℕ → List ℕ → ℕ
before x [] = 0
before x (b ∷ bs) = cond (eqb b x) 0 (suc (before x bs))

-- the first place of x from a place on, or the end
abbrev pub find_of : List ℕ → ℕ → ℕ → ℕ
find_of text x at = at + before x (drop at text)

-- where a line that is ended by an LF at `stop` ends without its CR
unfoldable pub end_of : List ℕ → ℕ → ℕ → ℕ
end_of text at stop = cond (ltb at stop && eqb (get_or text (stop - 1) 0) CR) (stop - 1) stop

-- the line that begins at a place: its start, its end, and where the next begins
unfoldable pub line_at_of : List ℕ → ℕ → Option LinePart
line_at_of text at =
    let stop = find_of text LF at in
    cond (leb (length text) at) None
    (cond (leb (length text) stop) (Some (record { start = at; end = stop; next = stop })) (Some (record { start = at; end = end_of text at stop; next = stop + 1 })))
