-- One turn of the mode, said once for all three: a hot call, the end of its own streak, or one call more of it.
use Prim.Native.Nat.{ℕ, ◌≤◌, ◌<◌}
use mathlib.Core.Path.{◌≡◌, refl}
use mathlib.Core.Bool.{Bool}
use mathlib.Core.List.{List, [], ◌∷◌, ◌++◌}
use Rattle.kinds.specs.declared.mode.GovernorMode.{GovernorMode}
use Rattle.kinds.specs.declared.mode.GovernorMode.TheVariants.{Balanced, ReadProtect, WriteEmergency}
use Rattle.state.specs.declared.Streaks.{Streaks}
use Rattle.modes.specs.declared.NextMode.{NextMode}
use Rattle.kinds.specs.Tuning.{Tuning}
use Rattle.thresholds.specs.Thresholds.{hot, recovered, high, calm}
use Rattle.modes.specs.Mode.{next, switched, next_mode_of}
use Rattle.governor_promises.specs.Reading.{Seen, IsHot}
use Rattle.governor_promises.proofs.Streaks.{by-test, by_order}

abbrev pub at : GovernorMode → Streaks → NextMode
at m k = record { mode = m; streaks = k }

-- a mode's own streak, and the streaks with another one
abbrev pub own : GovernorMode → Streaks → ℕ
own Balanced k = k.enter_read_protect
own ReadProtect k = k.exit_read_protect
own WriteEmergency k = k.exit_emergency

abbrev pub grown : GovernorMode → Streaks → ℕ → Streaks
grown Balanced k n = record { enter_read_protect = n; exit_read_protect = k.exit_read_protect; exit_emergency = k.exit_emergency }
grown ReadProtect k n = record { enter_read_protect = k.enter_read_protect; exit_read_protect = n; exit_emergency = k.exit_emergency }
grown WriteEmergency k n = record { enter_read_protect = k.enter_read_protect; exit_read_protect = k.exit_read_protect; exit_emergency = n }

pub own-grown : (m : GovernorMode) (k : Streaks) (n : ℕ) → own m (grown m k n) ≡ n
own-grown Balanced k n = refl
own-grown ReadProtect k n = refl
own-grown WriteEmergency k n = refl

-- the mode that the streak ends in
abbrev pub ends_in : GovernorMode → GovernorMode
ends_in Balanced = ReadProtect
ends_in ReadProtect = Balanced
ends_in WriteEmergency = Balanced

module _ (G : Tuning) where
  -- what the streak counts, and the window that ends it
  abbrev pub passes : GovernorMode → Seen → Bool
  passes Balanced x = high G x.smooth
  passes ReadProtect x = calm G x.smooth
  passes WriteEmergency x = recovered G x.fraction x.ratio

  abbrev pub window : GovernorMode → ℕ
  window Balanced = G.enter_read_protect
  window ReadProtect = G.exit_read_protect
  window WriteEmergency = G.exit_emergency

  -- a hot call cuts the mode short
  abbrev pub Cuts : GovernorMode → Seen → Type 0
  Cuts Balanced x = IsHot G x
  Cuts ReadProtect x = IsHot G x
  Cuts WriteEmergency x = ⊥

  abbrev pub turned : GovernorMode → Streaks → Seen → NextMode
  turned m k x = next_mode_of G m k x.fraction x.ratio x.smooth

  abbrev pub longer : GovernorMode → Streaks → Seen → ℕ
  longer m k x = next (passes m x) (own m k)

  pub by_turn : (P : NextMode → Type 0) (m : GovernorMode) (k : Streaks) (x : Seen) → (Cuts m x → IsHot G x → P (switched WriteEmergency))
      → (¬ Cuts m x → window m ≤ longer m k x → P (switched (ends_in m)))
      → (¬ Cuts m x → longer m k x < window m → P (at m (grown m k (longer m k x))))
      → P (turned m k x)
  unfolding next_mode_of
  by_turn P Balanced k x f g h =
      by-test P (hot G x.fraction x.ratio) _ _ (λ y. f y y) (λ n. by_order P (window Balanced) (longer Balanced k x) _ _ (g n) (h n))
  by_turn P ReadProtect k x f g h =
      by-test P (hot G x.fraction x.ratio) _ _ (λ y. f y y) (λ n. by_order P (window ReadProtect) (longer ReadProtect k x) _ _ (g n) (h n))
  by_turn P WriteEmergency k x f g h = by_order P (window WriteEmergency) (longer WriteEmergency k x) _ _ (g (λ n. n)) (h (λ n. n))

  -- ---- a run of accepted observations

  abbrev pub step : NextMode → Seen → NextMode
  step s x = turned s.mode s.streaks x

  unfoldable pub run : NextMode → List Seen → NextMode
  run s [] = s
  run s (x ∷ xs) = run (step s x) xs

  pub run-append : (s : NextMode) (l t : List Seen) → run s (l ++ t) ≡ run (run s l) t
  unfolding run
  run-append s [] t = refl
  run-append s (x ∷ l) t = run-append (step s x) l t
