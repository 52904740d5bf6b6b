-- A streak that stops at the largest u32 reaches a window exactly if the whole streak does, and below the window it is the whole streak.
-- Assumes nothing.
use Rattle.std.specs.Prelude.{◌≡◌, refl, Bool, true, false, cond, ℕ, ◌-◌, ◌^◌, ◌≤◌, ◌<◌, leb}
use Rattle.std.proofs.Common.{arith, leb-true, leb-false, le-leb}
use Rattle.modes.specs.declared.NextMode.{NextMode}

-- r stands for the streak n
abbrev pub Stops : ℕ → ℕ → Type 0
Stops r n = (r ≤ n) × (r < 2 ^ 32 - 1 → r ≡ n)

pub as_whole : {r n : ℕ} (w : ℕ) → Stops r n → w < 2 ^ 32 → (ended : NextMode) (kept : ℕ → NextMode) → cond (leb w r) ended (kept r) ≡ cond (leb w n) ended (kept n)
as_whole {r} {n} w s small ended kept = by (leb w r) refl
  where
    by : (b : Bool) → leb w r ≡ b → cond (leb w r) ended (kept r) ≡ cond (leb w n) ended (kept n)
    by true t = rw (t, le-leb w n (omega (arith, leb-true w r t, s.0)))
    by false t = rw (s.1 (omega (arith, leb-false w r t)))
