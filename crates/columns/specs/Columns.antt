-- The fourteen columns, one to each word of a decision: the one list by which header, rows and the log's text are made. Definitions only.
use Rattle.std.specs.Prelude.{ℕ, Bool, true, false, List, [], ◌∷◌, get_or}
use Prim.Native.String.{String}

-- D: a float, by its bits. K: a word without a sign
pub data Form : Type 0 where
  D : Form
  K : Form

pub record Column : Type 0 where
  pub name : String
  pub form : Form

abbrev column : String → Form → Column
column n f = record { name = n; form = f }

abbrev pub columns : List Column
columns =
    column "SEQ" K ∷ column "P_L0" D ∷ column "P_DEBT" D ∷ column "P_READ" D ∷ column "DOMINANT" K ∷ column "TIER" K ∷ column "CONSIDER" K
    ∷ column "KIND" K ∷ column "LEVEL" K ∷ column "BATCH" K ∷ column "BYTES" K ∷ column "R_L0" D ∷ column "R_DEBT" D ∷ column "R_READ" D ∷ []

-- the form of the i-th; past the last it is D
abbrev pub form_of : ℕ → Form
form_of i = (get_or columns i (column "" D)).form

abbrev pub is_float : Form → Bool
is_float D = true
is_float K = false
