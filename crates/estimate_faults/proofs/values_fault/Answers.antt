-- `estimate_faults::values_fault` meets its contract.
use Rattle.std.proofs.Common.{refl, ◌*◌, ◌≤◌, ◌<◌, arith, length, lt-ltb, le-ltb}
use Rattle.refusals.specs.Checks.{pass, stop}
use Rattle.candidate_records.specs.Candidates.{candidates_of}
use Rattle.estimate_faults.proofs.values_fault.Goals as goal

pub returns-then-levels_out : goal.returns-then-levels_out
returns-then-levels_out c = stop 6 _ c.levels_out.ensures c.if-levels_out.true

pub returns-then-is_large : goal.returns-then-is_large
returns-then-is_large c = pass 6 c.levels_out.ensures c.if-levels_out.false (stop 2 _ c.is_large.ensures c.if-is_large.true)

pub returns-then-room-candidate_count : goal.returns-then-room-candidate_count
returns-then-room-candidate_count c = let a = c.args in
    let h : a.room < 9 * length (candidates_of a.candidates.now) = omega arith in
    pass 6 c.levels_out.ensures c.if-levels_out.false (pass 2 c.is_large.ensures c.if-is_large.false (stop 9 _ refl (lt-ltb _ _ h)))

pub returns : goal.returns
returns c = let a = c.args in
    let h : 9 * length (candidates_of a.candidates.now) ≤ a.room = omega arith in
    pass 6 c.levels_out.ensures c.if-levels_out.false (pass 2 c.is_large.ensures c.if-is_large.false (pass 9 refl (le-ltb _ _ h) refl))
