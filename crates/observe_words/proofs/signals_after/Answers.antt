-- `observe_words::signals_after` meets its contract.
use Rattle.pressure.specs.Pressure.{blended_of, signals_of}
use Rattle.observe_words.proofs.signals_after.Goals as goal

pub returns : goal.returns
unfolding signals_of blended_of
returns c = rw (c.components_of.ensures, c.requires, c.smoothed-probed.ensures, c.debt_ewma.ensures, c.pressure_ewma.ensures, c.tables_probed_ewma.ensures) at c.blended.ensures
