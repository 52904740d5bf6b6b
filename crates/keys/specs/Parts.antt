-- Which part of the lent bytes is meant: where it stands, and what stands there. Definitions only.
use Rattle.std.specs.Prelude.{ℕ, ◌+◌, min, ◌≡◌, cond, List, length, take, drop}
use Rattle.std.specs.Borrow.{Bor}
use Rattle.keys.specs.Keys.{key_lt}

-- lent bytes, with the place in memory that they are lent at: a block, and an offset in it
abbrev pub Bytes : Type 0
Bytes = Bor (List ℕ)

-- r is lent from the same bytes, from start on, or from their end if they end before it
abbrev pub StartsAt : Bytes → ℕ → Bytes → Type 0
StartsAt s start r = (r.ref_ptr.0 ≡ s.ref_ptr.0) × (r.ref_ptr.1 ≡ s.ref_ptr.1 + min start (length s.now))

-- r is the part of s from start on, of len bytes, cut off at the end of s
abbrev pub IsPart : Bytes → ℕ → ℕ → Bytes → Type 0
IsPart s start len r = StartsAt s start r × (r.now ≡ take len (drop start s.now))

-- the smaller and the larger of two keys, as the part that was handed in; of equal ones the first
unfoldable pub lesser_part : Bytes → Bytes → Bytes
lesser_part a b = cond (key_lt b.now a.now) b a

unfoldable pub greater_part : Bytes → Bytes → Bytes
greater_part a b = cond (key_lt a.now b.now) b a
