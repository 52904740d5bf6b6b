-- Which columns are floats, by their place.
use Rattle.std.specs.Prelude.{◌≡◌, refl, ℕ, zero, suc, Bool, true, false, cond, leb, eqb}
use Rattle.std.proofs.Common.{arith, ne_eqb, le-leb}
use Rattle.std.proofs.lemmas.Bool.{lt-leb}
use Rattle.columns.specs.Columns.{form_of, is_float}

-- 1 to 3, and from 11 on
abbrev pub float_at : ℕ → Bool
float_at i = cond (eqb i 0) false (cond (leb i 3) true (leb 11 i))

pub float_at_lem : (i : ℕ) → is_float (form_of i) ≡ float_at i
float_at_lem zero = refl
float_at_lem (suc zero) = refl
float_at_lem (suc (suc zero)) = refl
float_at_lem (suc (suc (suc zero))) = refl
float_at_lem (suc (suc (suc (suc zero)))) = refl
float_at_lem (suc (suc (suc (suc (suc zero))))) = refl
float_at_lem (suc (suc (suc (suc (suc (suc zero)))))) = refl
float_at_lem (suc (suc (suc (suc (suc (suc (suc zero))))))) = refl
float_at_lem (suc (suc (suc (suc (suc (suc (suc (suc zero)))))))) = refl
float_at_lem (suc (suc (suc (suc (suc (suc (suc (suc (suc zero))))))))) = refl
float_at_lem (suc (suc (suc (suc (suc (suc (suc (suc (suc (suc zero)))))))))) = refl
float_at_lem (suc (suc (suc (suc (suc (suc (suc (suc (suc (suc (suc i))))))))))) =
    rw (ne_eqb (suc (suc (suc (suc (suc (suc (suc (suc (suc (suc (suc i))))))))))) 0 (omega arith), lt-leb (suc (suc (suc (suc (suc (suc (suc (suc (suc (suc (suc i))))))))))) 3 (omega arith), le-leb 11 (suc (suc (suc (suc (suc (suc (suc (suc (suc (suc (suc i))))))))))) (omega arith)) (by i)
  where
    by : (j : ℕ) → is_float (form_of (suc (suc (suc (suc (suc (suc (suc (suc (suc (suc (suc j)))))))))))) ≡ true
    by zero = refl
    by (suc zero) = refl
    by (suc (suc zero)) = refl
    by (suc (suc (suc j))) = refl
