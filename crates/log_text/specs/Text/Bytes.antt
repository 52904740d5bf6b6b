-- How many bytes good lines have at most, so that they are refused only for their number.
use Rattle.std.specs.Prelude.{◌≡◌, ℕ, ◌*◌, ◌≤◌, Bool, ◌||◌, List, [], ◌∷◌, length}
use Rattle.std.proofs.Math.Path.{refl}
use Rattle.std.proofs.Common.{arith, le-ltb, ltb-false}
use Rattle.std.proofs.Math.Bool.{true, false, or-true}
use Rattle.std.proofs.Math.Dec.{ltb}
use Rattle.std.proofs.lemmas.Bool.{not-false}
use Rattle.lists.specs.Any.{any_of}
use Rattle.lists.specs.Tests.{neither}
use Rattle.decision_log.specs.Log.{max_kept}
use Rattle.replay_text.specs.Lines.{lines_of}
use Rattle.replay_text.specs.Lines.Lengths.{bytes_with, lines-bytes}
use Rattle.log_fields.specs.Line.Short.{good-short}
use Rattle.log_text.specs.Text.{most, read_line, is_bad, too_long}

-- each of at most 269 bytes, a CR and an LF
good-lines : (ls : List (List ℕ)) → any_of is_bad ls ≡ false → bytes_with 2 ls ≤ 271 * length ls
unfolding any_of bytes_with
good-lines [] e = omega arith
good-lines (l ∷ ls) e =
    let p = neither (is_bad l) (any_of is_bad ls) e in
    omega (arith, good-short l (not-false (read_line l).good p.0), good-lines ls p.1)

module _ (text : List ℕ) (good : any_of is_bad (lines_of text) ≡ false) where
  -- at most 4,096 good lines have at most 1,110,016 bytes, so that no good log is refused for its bytes
  pub good-fits : length (lines_of text) ≤ max_kept → length text ≤ most
  good-fits h = omega (arith, lines-bytes text, good-lines (lines_of text) good)

  -- good lines are refused as too many by their number alone
  pub four_by_lines : too_long text ≡ ltb max_kept (length (lines_of text))
  unfolding too_long
  four_by_lines = go (ltb max_kept (length (lines_of text))) refl
    where
      go : (t : Bool) → ltb max_kept (length (lines_of text)) ≡ t → ltb most (length text) || t ≡ t
      go true e = or-true (ltb most (length text))
      go false e = rw (le-ltb most (length text) (good-fits (ltb-false _ _ e)))
