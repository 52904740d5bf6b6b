-- `replay_lines::run::line_numbers` meets its contract.
use Rattle.std.proofs.Common.{refl}
use Rattle.replay_lines.specs.Replay.Steps.{row-five}
use Rattle.replay_lines.proofs.run.line_numbers.Goals as goal

pub returns : goal.returns
returns c = (
  refl,
  rw (
    row-five,
    c.from.ensures,
    c.idx.ensures,
    c.pacing_delay-delay.ensures,
    c.pressure.ensures,
    c.dominant-dominant.ensures,
    c.pressure_vector.ensures,
    c.mode-mode.ensures,
  ),
)
