-- `candidates::generate_candidates` meets its contract. The first run tells the counts and writes no word; the second writes.
use Rattle.std.proofs.lemmas.Result.{err_from_is_err_and}
use Rattle.std.proofs.Common.{◌≡◌, sym, ◌∙◌, [], ◌++◌, ℕ, List, arith, length}
use Rattle.refusals.specs.Codes.Same.{refused}
use Rattle.l0_words.specs.declared.Ends.{Ends}
use Rattle.l0_words.specs.Written.{Written, start}
use Rattle.candidate_words.specs.Candidates.{lent_offers}
use Rattle.candidates.specs.Generate.{GenerateInput, generate_input, candidate_words, number_words, input_fault, short_of}
use Rattle.candidates.specs.Refusing.{fault_input, fault_short, nothing, answer-refused, answer-given, lent-made}
use Rattle.candidates.proofs.generate_candidates.Goals as goal

-- after the run that counts: the counts are known, and no word was written
counted : (q : GenerateInput) (need : Ends) (c₁ n₁ c n : List ℕ) → input_fault q.tables q.keys q.over ≡ 0 → Written start (lent_offers q.tables q.keys q.trigger q.over) [] c₁ [] n₁ need
    → (need.words ≡ length (candidate_words q)) × (need.numbers ≡ length (number_words q)) × (c₁ ++ c ≡ c) × (n₁ ++ n ≡ n)
counted q need c₁ n₁ c n clear f =
    let w = rw (lent-made q clear) at f in
    (omega (arith, w.words.ends), omega (arith, w.numbers.ends), nothing (candidate_words q) _ _ w.words.stands, nothing (number_words q) _ _ w.numbers.stands)

pub returns-in_err-input_fault : goal.returns-in_err-input_fault
returns-in_err-input_fault c = let a = c.args in let q = generate_input a.tables.now a.keys.now a.l0_compaction_trigger a.over_budget_levels.now in let e = c.in_err-input_fault.ensures in
    let p = err_from_is_err_and c.from_residual.result c.from_residual.ensures.1 in rw (p.1, p.2) (answer-refused q a.candidates.now a.numbers.now _ (fault_input q _ _ (λ z. refused _ (e ∙ z)) ∙ sym e) (refused _))

pub returns-then-short : goal.returns-then-short
returns-then-short c = let a = c.args in let q = generate_input a.tables.now a.keys.now a.l0_compaction_trigger a.over_budget_levels.now in
    let clear = sym c.in_ok-input_fault.ensures in
    let k = counted q _ _ _ a.candidates.now a.numbers.now clear c.put_candidates-need.ensures in
    let tested : c.short.result ≡ short_of q (length a.candidates.now) (length a.numbers.now) = c.short.ensures ∙ rw (k.0, k.1, k.2, k.3) in
    rw (k.2, k.3) (answer-refused q a.candidates.now a.numbers.now 9 (fault_short q _ _ clear (sym tested ∙ c.if-short.true)) (λ e. absurd (omega arith)))

pub returns : goal.returns
returns c = let a = c.args in let q = generate_input a.tables.now a.keys.now a.l0_compaction_trigger a.over_budget_levels.now in
    let clear = sym c.in_ok-input_fault.ensures in
    let k = counted q _ _ _ a.candidates.now a.numbers.now clear c.put_candidates-need.ensures in
    let tested : c.short.result ≡ short_of q (length a.candidates.now) (length a.numbers.now) = c.short.ensures ∙ rw (k.0, k.1, k.2, k.3) in
    answer-given q a.candidates.now a.numbers.now _ _ _ clear (sym tested ∙ c.if-short.false) (rw (lent-made q clear, k.2, k.3) at c.put_candidates-end.ensures)
