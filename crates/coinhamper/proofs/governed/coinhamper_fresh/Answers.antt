-- `coinhamper::governed::coinhamper_fresh` meets its contract.
use Rattle.std.proofs.Common.{eq-eqb, ne_eqb, ◌∙◌}
use Rattle.state_words.specs.StateWords.Sound.{whole}
use Rattle.coinhamper.specs.Governed.{fresh_refusal, fresh_after}
use Rattle.coinhamper.proofs.governed.coinhamper_fresh.Goals as goal

pub returns-then-state-ne-STATE_WORDS : goal.returns-then-state-ne-STATE_WORDS
unfolding fresh_refusal fresh_after
returns-then-state-ne-STATE_WORDS c = let e = ne_eqb _ _ c.if-state-ne-STATE_WORDS.true in record { value = simp e; state_after = simp e }

pub returns : goal.returns
unfolding fresh_refusal fresh_after
returns c = let e = eq-eqb _ _ c.if-state-ne-STATE_WORDS.false in record { value = simp e; state_after = rw e (c.put_words.ensures ∙ rw (c.to_words-all.ensures, c.fresh.ensures) (whole _ _ c.if-state-ne-STATE_WORDS.false)) }
