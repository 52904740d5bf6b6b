-- What makes candidates and estimates bad. Definitions only.
use Rattle.std.specs.Prelude.{ℕ, ◌%◌, Bool, false, not, cond, ◌&&◌, ◌||◌, List, length, leb, ltb, eqb, Float}
use Rattle.std.specs.Float.Ieee.{le}
use Rattle.arith.specs.Floats.{f0, f1}
use Rattle.lists.specs.Any.{any_of}
use Rattle.candidate_records.specs.declared.Candidate.{Candidate}
use Rattle.candidate_records.specs.declared.CandidateEstimate.{CandidateEstimate}
use Rattle.candidate_records.specs.Candidates.{candidates_of}
use Rattle.faults.specs.Limits.{max_candidates, max_numbers, max_batch, max_level, max_rewrite, max_age}
use Rattle.faults.specs.Tables.{part_out}

-- 4
abbrev pub too_many_candidates : List ℕ → Bool
too_many_candidates ws = ltb max_candidates (length (candidates_of ws))

abbrev pub too_many_numbers : Candidate → Bool
too_many_numbers c = ltb max_numbers c.count

-- 5: kind 1 has level 0; kind 2 has a batch length of 1 to 8, the others of 0
unfoldable pub fits_kind : Candidate → Bool
fits_kind c =
    cond (eqb c.kind 1) (eqb c.level 0 && eqb c.batch_len 0)
    (cond (eqb c.kind 2) (leb c.level max_level && (leb 1 c.batch_len && leb c.batch_len max_batch))
    (cond (eqb c.kind 3) (leb c.level max_level && eqb c.batch_len 0) false))

abbrev pub candidate_broken : Candidate → Bool
candidate_broken c = not (fits_kind c)

abbrev pub broken_candidates : List ℕ → Bool
broken_candidates ws = not (eqb (length ws % 6) 0) || any_of candidate_broken (candidates_of ws)

-- 5: start and count reach past the n numbers
abbrev pub numbers_out : ℕ → Candidate → Bool
numbers_out n c = part_out n c.start c.count

-- 8: a NaN is in no range, -0 is in 0 to 1
unfoldable pub in_unit : Float → Bool
in_unit x = le f0 x && le x f1

unfoldable pub estimate_out : CandidateEstimate → Bool
estimate_out e =
    not (in_unit e.l0_relief && (in_unit e.debt_relief && in_unit e.read_relief))
    || (ltb max_rewrite e.estimated_rewrite_bytes || ltb max_age e.age)
