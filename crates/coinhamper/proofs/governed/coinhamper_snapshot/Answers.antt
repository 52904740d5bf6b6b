-- `coinhamper::governed::coinhamper_snapshot` meets its contract.
use Rattle.std.proofs.Common.{◌∙◌, ap}
use Rattle.state_words.specs.StateWords.{gated}
use Rattle.snapshot.specs.Snapshot.Answered.{told as answered}
use Rattle.answer_words.specs.AnswerWords.{figures_or}
use Rattle.answer_words.specs.AnswerWords.Told.{told, fourteen}
use Rattle.coinhamper.proofs.governed.coinhamper_snapshot.Goals as goal

pub returns : goal.returns
returns c = let k = rw c.state_in.ensures at c.snapshot-a.ensures in
    let a = answered c.snapshot-a.result _ k.refusal k.figures in
    let both = told _ _ _ _ 14 c.args.out.now _ _ (c.gate.ensures ∙ ap (gated _) (c.code.ensures ∙ k.refusal)) (c.snapshot_words-fourteen.ensures ∙ ap figures_or a) (fourteen _) (c.answer.ensures.value, c.answer.ensures.out_after) in
    record { value = both.0; out_after = both.1 }
