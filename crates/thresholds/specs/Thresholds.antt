-- What a sample is, by its L0 fraction, its debt ratio and the smoothed probe count after it. Definitions only.
use Rattle.std.specs.Prelude.{Bool, ◌&&◌, ◌||◌, Float}
use Rattle.std.specs.Float.Ieee.{le}
use Rattle.kinds.specs.Tuning.{Tuning}

abbrev pub hot : Tuning → Float → Float → Bool
hot G fraction ratio = le G.enter_fraction fraction || le G.enter_ratio ratio

abbrev pub recovered : Tuning → Float → Float → Bool
recovered G fraction ratio = le fraction G.exit_fraction && le ratio G.exit_ratio

abbrev pub high : Tuning → Float → Bool
high G probed = le G.enter_probed probed

abbrev pub calm : Tuning → Float → Bool
calm G probed = le probed G.exit_probed
