-- What tests say together, and choices by a test.
use Rattle.std.specs.Prelude.{◌≡◌, refl, Bool, true, false, cond, ◌&&◌, ◌||◌}
use Rattle.std.proofs.Common.{sym, ◌∙◌, true≢false}

pub neither : (a b : Bool) → a || b ≡ false → (a ≡ false) × (b ≡ false)
neither true b e = absurd (true≢false e)
neither false b e = (refl, e)

pub both : (a b : Bool) → a && b ≡ true → (a ≡ true) × (b ≡ true)
both true b e = (refl, e)
both false b e = absurd (true≢false (sym e))

-- not both, but the second: so not the first
pub not_first : (a b : Bool) → a && b ≡ false → b ≡ true → a ≡ false
not_first true b e f = absurd (true≢false (sym f ∙ e))
not_first false b e f = refl

module _ {A : Type 0} where
  pub by-test : (P : A → Type 0) (t : Bool) (a b : A) → (t ≡ true → P a) → (t ≡ false → P b) → P (cond t a b)
  by-test P true a b p q = p refl
  by-test P false a b p q = q refl

  pub cond_and : (s t : Bool) (a b : A) → cond (s && t) a b ≡ cond s (cond t a b) b
  cond_and true t a b = refl
  cond_and false t a b = refl

  pub cond_same : (t : Bool) (a : A) → cond t a a ≡ a
  cond_same true a = refl
  cond_same false a = refl
