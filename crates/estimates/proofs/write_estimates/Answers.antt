-- `estimates::write_estimates` meets its contract.
use Rattle.std.proofs.Common.{length, drop, List, ℕ, ◌+◌, ◌*◌, ◌<◌, ◌≡◌, sym, ◌∙◌, ap, arith}
use Rattle.lists.specs.Flat.{flat_more, flat_end}
use Rattle.estimates.specs.Estimate.{estimate_of, nine_words}
use Rattle.estimates.specs.Estimate.Call.{estimate_words_of}
use Rattle.candidate_records.specs.Candidates.{candidates_of, candidate_at, no_candidate}
use Rattle.lists.specs.Writes.{Filling, fill-part, fill_end}
use Rattle.records.specs.Tables.{tables_of, entries_of}
use Rattle.reliefs.specs.Reliefs.{level_bytes_of}
use Rattle.candidate_records.specs.declared.Candidate.{Candidate}
use lib.Seq.{sets}
use Rattle.records.specs.declared.tables.Table.{Table}
use Rattle.records.specs.declared.tables.Entry.{Entry}
use Rattle.candidate_records.specs.declared.CandidateEstimate.{CandidateEstimate}
use Rattle.estimates.proofs.write_estimates.Goals as goal

-- one candidate's words more
module _ (ts : List Table) (next : ℕ) (es : List Entry) (ns : List ℕ) (cs : List Candidate) (i : ℕ) where
  words : Candidate → List ℕ
  words k = nine_words (estimate_of ts next es ns k)

  one_more : (old whole out new ws : List ℕ) (e : CandidateEstimate) (k : Candidate) → Filling old 0 whole out (i * 9) (estimate_words_of ts next es ns (drop i cs)) → i < length cs
      → k ≡ candidate_at cs i → e ≡ estimate_of ts next es ns k → ws ≡ nine_words e → new ≡ sets out (i * 9) ws → Filling old 0 whole new ((i + 1) * 9) (estimate_words_of ts next es ns (drop (i + 1) cs))
  unfolding words
  one_more old whole out new ws e k f h x y z w =
      fill-part old 0 whole out (i * 9) (words (candidate_at cs i)) _ new _ (rw (flat_more words cs i no_candidate h) at f) (record { ends = omega arith; stands = rw (w, z, y, x) })

pub loop-i-preserved : goal.loop-i-preserved
loop-i-preserved c = let a = c.args in let l = c.loop-i in let m = c.sum_for-sum.ensures in
    (m.1 ∙ ap (λ (l : ℕ). level_bytes_of l (tables_of a.numbered.now.tables.now)) (sym m.0), one_more (tables_of a.numbered.now.tables.now) a.next (entries_of a.over.now) a.numbers.now (candidates_of a.candidates.now) l.i _ _ _ _ _ _ _ l.invariant.1 (omega arith) c.candidate_at-c.ensures c.estimate_candidate-e.ensures c.nine_words-words.ensures c.put_words.ensures)

pub returns : goal.returns
returns c = let a = c.args in
    let e = flat_end (λ k. nine_words (estimate_of (tables_of a.numbered.now.tables.now) a.next (entries_of a.over.now) a.numbers.now k)) (candidates_of a.candidates.now) c.loop-i.i (omega arith) in
    (c.candidate_count-n.ensures, (fill_end _ _ _ _ _ (rw e at c.loop-i.invariant.1)).stands)
