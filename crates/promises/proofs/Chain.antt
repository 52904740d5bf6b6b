-- What an accepted estimation writes, selection takes: under a vector in range it is never refused.
use mathlib.Core.Path.{◌≡◌, sym}
use mathlib.Core.Bool.{false}
use mathlib.Core.List.Memᴰ
use mathlib.Core.List.{List, Memᴰ, map}
use Prim.Native.Nat.{ℕ, ◌%◌}
use native.Mathlib.Omega.{arith}
use lib.ListN.{length, length-map}
use borrow.Author.Tests.{eq-eqb}
use Rattle.lists.specs.Any.{any_of, any_none, in_at}
use Rattle.kinds.specs.declared.vector.PressureVector.{PressureVector}
use Rattle.candidate_records.specs.declared.Candidate.{Candidate}
use Rattle.candidate_records.specs.declared.CandidateEstimate.{CandidateEstimate}
use Rattle.records.specs.Tables.{tables_of, entries_of}
use Rattle.candidate_records.specs.Candidates.{candidates_of, estimates_of, no_candidate}
use Rattle.candidate_faults.specs.Candidates.{estimate_out}
use Rattle.estimates.specs.Estimate.{estimate_of}
use Rattle.estimate_faults.specs.Faults.{EstimateInput, estimate_fault}
use Rattle.estimates.specs.Estimate.Call.{estimate_words}
use Rattle.estimates.specs.Estimate.Accepted.{Sound, Accepted, accepted, words_long}
use Rattle.choice.specs.Choice.Call.{vector_bad, pick_fault}
use Rattle.estimates.specs.Estimate.Range.{estimate_in_range}
use Rattle.estimates.specs.Estimate.ReadBack.{estimates-back}

module _ (q : EstimateInput) (room : ℕ) (z : estimate_fault q room ≡ 0) where
  a : Accepted q room
  a = accepted q room z

  abbrev candidates : List Candidate
  candidates = candidates_of q.candidates

  abbrev estimate : Candidate → CandidateEstimate
  estimate = estimate_of (tables_of q.tables) q.next (entries_of q.over) q.numbers

  estimates : estimates_of (estimate_words q) ≡ map estimate candidates
  estimates = estimates-back (tables_of q.tables) q.next (entries_of q.over) q.numbers candidates

  in_range : any_of estimate_out (map estimate candidates) ≡ false
  in_range = any_none estimate_out (map estimate candidates) each
    where
      each : (e : CandidateEstimate) → Memᴰ e (map estimate candidates) → estimate_out e ≡ false
      each e m =
          let c = Memᴰ.of_map estimate candidates m in
          let p = in_at candidates no_candidate c.0 c.1 in
          let sound : Sound (tables_of q.tables) (length q.numbers) c.0 = rw p.2 (a.sound p.0 p.1) in
          rw (← c.2) (estimate_in_range (tables_of q.tables) q.next (entries_of q.over) q.numbers c.0 sound a.low)

  pub chain : (v : PressureVector) → vector_bad v ≡ false → pick_fault v q.candidates (estimate_words q) ≡ 0
  unfolding pick_fault
  chain v good =
      let whole = eq-eqb (length (estimate_words q) % 9) 0 (omega (arith, words_long q)) in
      let paired = eq-eqb (length candidates) (length (map estimate candidates)) (sym (length-map candidates estimate)) in
      rw (a.few, a.kinds, whole, estimates, paired, good, in_range)
