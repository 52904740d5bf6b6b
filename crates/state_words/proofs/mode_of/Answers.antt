-- `state_words::mode_of` meets its contract.
use Rattle.std.proofs.Common.{◌≢◌, arith, ne_eqb}
use Rattle.state_words.specs.StateWords.{mode_from}
use Rattle.state_words.proofs.mode_of.Goals as goal

pub returns-in-0 : goal.returns-in-0
unfolding mode_from
returns-in-0 c = simp c.in-0.is

pub returns-in-1 : goal.returns-in-1
unfolding mode_from
returns-in-1 c = simp c.in-1.is

pub returns-in_default : goal.returns-in_default
unfolding mode_from
returns-in_default c =
    let zero : c.args.n ≢ 0 = omega arith in
    let one : c.args.n ≢ 1 = omega arith in
    simp (ne_eqb _ _ zero, ne_eqb _ _ one)
