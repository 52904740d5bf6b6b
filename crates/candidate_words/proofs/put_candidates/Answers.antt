-- `candidate_words::put_candidates` meets its contract. What is left is the candidates of the entries from i on.
use Rattle.std.proofs.Common.{sym, ◌∙◌, arith}
use Rattle.l0_words.specs.Written.{written_none}
use Rattle.candidate_words.specs.Writing.{writing_part, writing_end, written-append, fit-left, fit-right, fit-rest}
use Rattle.candidate_words.specs.Levels.{over-more, over-end, level-low}
use Rattle.candidate_words.specs.Bounds.{past, within}
use Rattle.records.specs.Tables.{tables_of, entries_of}
use Rattle.candidate_words.proofs.put_candidates.Goals as goal

pub returns-then-past_limits : goal.returns-then-past_limits
returns-then-past_limits c = let a = c.args in
    rw (past a.tables.now a.keys.now a.trigger a.over.now (sym c.past_limits.ensures ∙ c.if-past_limits.true)) (written_none _ _ _)

-- `more`: the level of the entry that was read is the next to be written
pub put_level-end-requires : goal.put_level-end-requires
put_level-end-requires c =
    let a = c.args in
    let h = within a.tables.now a.keys.now a.trigger a.over.now (sym c.past_limits.ensures ∙ c.if-past_limits.false) in
    let more = rw (over-more a.keys.now (tables_of a.tables.now) (entries_of a.over.now) c.loop-i.i (omega arith), ← c.entry_at-e.ensures) at c.loop-i.invariant in
    record { tables_len_bound = (h.few, rw (← c.entry_at-e.ensures) at (level-low _ c.loop-i.i h.low (omega arith))); fit = fit-left _ _ _ (fit-rest _ _ _ _ _ _ _ _ (fit-right _ _ _ _ _ _ _ _ h.fit c.put_l0-end.ensures) more) }

pub loop-i-preserved : goal.loop-i-preserved
loop-i-preserved c =
    let a = c.args in
    let more = rw (over-more a.keys.now (tables_of a.tables.now) (entries_of a.over.now) c.loop-i.i (omega arith), ← c.entry_at-e.ensures) at c.loop-i.invariant in
    writing_part _ _ _ _ _ _ _ _ _ _ _ _ more c.put_level-end.ensures

pub returns : goal.returns
returns c =
    let a = c.args in
    let h = within a.tables.now a.keys.now a.trigger a.over.now (sym c.past_limits.ensures ∙ c.if-past_limits.false) in
    rw h.all (written-append _ _ _ _ _ _ _ _ _ _ _ c.put_l0-end.ensures (writing_end _ _ _ _ _ _ _ (rw (over-end a.keys.now (tables_of a.tables.now) (entries_of a.over.now) c.loop-i.i (omega arith)) at c.loop-i.invariant)))
