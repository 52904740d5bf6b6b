-- The run, one line at a time.
use Rattle.std.specs.Prelude.{◌≡◌, refl, ℕ, ◌+◌, ◌≤◌, ◌<◌, Bool, true, false, cond, List, [], ◌∷◌, ◌++◌, length, drop, ltb, eqb}
use Rattle.std.proofs.Common.{sym, add-one, arith, append_assoc, length-append, length-take-le, lt-ltb, le-ltb}
use Rattle.refusals.specs.Refusals.{none, no_room}
use Rattle.state.specs.State.{fresh_of}
use Rattle.state.specs.declared.GovernorState.{GovernorState}
use Rattle.replay_text.specs.Lines.{LF, comma, lines_of, fields_of}
use Rattle.text_writers.specs.Rows.{row_of}
use Rattle.replay_fields.specs.Fields.{line_of}
use Rattle.replay_lines.specs.Replay.{observe_line, five, printed, replay_from, replay_of, replayed_of, replay_out, Counts}

-- five numbers as a row
pub row-five : (a b c d e : ℕ) → row_of comma LF (a ∷ b ∷ c ∷ d ∷ e ∷ []) ≡ five a b c d e
unfolding row_of
row-five a b c d e = rw (append_assoc, append_assoc, append_assoc, append_assoc)

module _ (s : GovernorState) (n : ℕ) (ls : List (List ℕ)) where
  pub replay_more : (l : List ℕ) (rest : List (List ℕ)) → ls ≡ l ∷ rest
      → replay_from s n ls ≡ printed n (observe_line s (line_of (fields_of l))) ++ replay_from (observe_line s (line_of (fields_of l))).state (n + 1) rest
  unfolding replay_from
  replay_more l rest e = rw (e, add-one)

  pub replay_end : ls ≡ [] → replay_from s n ls ≡ []
  unfolding replay_from
  replay_end e = rw e

module _ (bytes : List ℕ) where
  pub replay_over : 65536 < length bytes → replay_of bytes ≡ []
  unfolding replay_of
  replay_over h = rw (lt-ltb _ _ h)

  pub replay_within : length bytes ≤ 65536 → replay_of bytes ≡ replay_from (fresh_of 0) 1 (lines_of bytes)
  unfolding replay_of
  replay_within h = rw (le-ltb _ _ h)

  module _ (old output : List ℕ) (is : output ≡ replay_of bytes) where
    pub answered : length output ≤ length old → (record { refusal = none; length = length output } ≡ replayed_of bytes (length old)) × (output ++ drop (length output) old ≡ replay_out bytes old)
    answered h = let e = rw is at (le-ltb (length old) (length output) h) in (simp (is, e), simp (is, e))

    pub refused : length old < length output → (record { refusal = no_room; length = 0 } ≡ replayed_of bytes (length old)) × (old ≡ replay_out bytes old)
    refused h = let e = rw is at (lt-ltb (length old) (length output) h) in (simp e, simp e)

-- what is answered lies within the buffer
pub answer-counts : (bytes old : List ℕ) → Counts (replayed_of bytes (length old)).length (replay_out bytes old)
answer-counts bytes old = go (ltb (length old) (length (replay_of bytes)))
  where
    front : (n : ℕ) (l : List ℕ) → n ≤ length l → Counts n l
    front n l h = (h, sym (length-take-le n l h))

    go : (t : Bool) → Counts (cond (eqb (cond t no_room 0) none) (length (replay_of bytes)) 0) (cond (eqb (cond t no_room 0) none) (replay_of bytes ++ drop (length (replay_of bytes)) old) old)
    go true = front 0 old (omega arith)
    go false = front _ _ (omega (arith, length-append (replay_of bytes) (drop (length (replay_of bytes)) old)))

-- what comes back of a part of no length
pub none_of : (part l : List ℕ) → length part ≡ 0 → part ++ l ≡ l
none_of [] l h = refl
none_of (x ∷ part) l h = absurd (omega arith)
