-- `search::last_best` meets its contract. The best of the first places is held, and stands among them.
use Rattle.std.proofs.Common.{◌≡◌, ℕ, ◌<◌, Some}
use Rattle.search.specs.Search.{Search, Tests, Compares}
use Rattle.search.specs.Choices.{Choice}
use Rattle.search.specs.Search.Pass.{Held}
use Rattle.search.proofs.last_best.Given as goal

abbrev pub invariant-loop-here : goal.invariant-loop-here
invariant-loop-here g l =
    record {
      placed : (k : ℕ) → l.best ≡ Some k → k < l.here;
      held : (s : Search) (read : ℕ → Choice) → Tests s read l.n (goal.C-post g l.compared) → Compares s read l.n (goal.B-post g l.below) → Held s read l.n l.best l.here;
    }
