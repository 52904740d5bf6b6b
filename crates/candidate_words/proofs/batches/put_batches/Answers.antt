-- `candidate_words::batches::put_batches` meets its contract. What is left is the batches of more tables than the last.
use Rattle.std.proofs.Common.{◌≡◌, ◌+◌, ◌-◌, arith}
use native.Mathlib.Nat.{sub-zero}
use Rattle.l0_words.specs.Written.{written_one}
use Rattle.candidate_words.specs.Writing.{writing_start, writing_part, writing_end, fit-one, fit-left, fit-rest}
use Rattle.lists.specs.Records.{tabulate}
use Rattle.candidate_words.specs.Levels.{tabulate-more, batch-held}
use Rattle.candidate_words.specs.Candidates.{batch_of}
use Rattle.records.specs.Tables.{tables_of}
use Rattle.candidate_words.proofs.batches.put_batches.Goals as goal

pub loop-last-init : goal.loop-last-init
loop-last-init c = rw (sub-zero, c.min-most.ensures) (writing_start _ _ _ _)

-- `more`: the batch that was made is the next to be written
pub put_candidate-end-requires : goal.put_candidate-end-requires
put_candidate-end-requires c =
    let a = c.args in
    let ks = a.keys.now in
    let ts = tables_of a.tables.now in
    let l = c.loop-last in
    let more = rw (tabulate-more (batch_of ks ts a.level a.next.now a.run.now) c.min-most.result l.last c.loop-last-test.true, batch-held ks ts a.level a.next.now a.run.now _ (l.last + 1) (omega (arith, c.min-most.ensures)) c.batch_of-b.ensures) at l.invariant in
    record { level_bound = c.requires.level_bound; words_bound = fit-one _ _ _ _ _ _ _ _ c.put_batch-count.ensures (fit-left _ _ _ (fit-rest _ _ _ _ _ _ _ _ c.requires.fit more)) }

pub loop-last-preserved : goal.loop-last-preserved
loop-last-preserved c =
    let a = c.args in
    let ks = a.keys.now in
    let ts = tables_of a.tables.now in
    let l = c.loop-last in
    let more = rw (tabulate-more (batch_of ks ts a.level a.next.now a.run.now) c.min-most.result l.last c.loop-last-test.true, batch-held ks ts a.level a.next.now a.run.now _ (l.last + 1) (omega (arith, c.min-most.ensures)) c.batch_of-b.ensures) at l.invariant in
    writing_part _ _ _ _ _ _ _ _ _ _ _ _ more (written_one _ _ _ _ _ _ _ _ c.put_batch-count.ensures _ _ _ c.put_candidate-end.ensures)

pub returns : goal.returns
unfolding tabulate
returns c = let e : c.min-most.result - c.loop-last.last ≡ 0 = omega arith in
    writing_end _ _ _ _ _ _ _ (rw e at c.loop-last.invariant)
