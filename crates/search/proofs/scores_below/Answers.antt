-- `search::scores_below` meets its contract.
use Rattle.std.proofs.Common.{◌≡◌, refl, sym, false, Float}
use Rattle.std.proofs.lemmas.Bool.{ltb-false}
use lib.Ieee.{nan, inf, fin, lt}
use lib.ListN.{get_or-eq_default}
use Rattle.search.proofs.scores_below.Goals as goal

below_none : (x : Float) → false ≡ lt x nan
unfolding lt
below_none nan = refl
below_none (inf s) = refl
below_none (fin s m e) = refl

pub returns-in_default : goal.returns-in_default
returns-in_default c = let a = c.args in rw (get_or-eq_default a.scores nan {n = a.best} (ltb-false _ _ (sym c.in_default.ensures'.lookup.0))) (below_none _)

pub returns-in_default-2 : goal.returns-in_default-2
unfolding lt
returns-in_default-2 c = let a = c.args in rw (get_or-eq_default a.scores nan {n = a.here} (ltb-false _ _ (sym c.in_default.ensures.lookup.0)))
