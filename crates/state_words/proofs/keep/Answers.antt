-- `state_words::keep` meets its contract.
use Rattle.std.proofs.Common.{ne_eqb, sym, ◌∙◌}
use Rattle.state_words.specs.StateWords.{words_after}
use Rattle.state_words.specs.StateWords.Sound.{kept}
use Rattle.state_words.proofs.keep.Goals as goal

pub returns-then-told-ne-NONE : goal.returns-then-told-ne-NONE
unfolding words_after
returns-then-told-ne-NONE c = record {
  value = c.gate-told.ensures;
  words_after = rw (← c.gate-told.ensures, ne_eqb _ _ c.if-told-ne-NONE.true);
}

pub returns : goal.returns
returns c = let e = sym c.gate-told.ensures ∙ c.if-told-ne-NONE.false in record {
  value = sym e;
  words_after = c.put_words.ensures ∙ rw c.to_words-all.ensures (kept _ _ e);
}
