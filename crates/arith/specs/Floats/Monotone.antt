-- Rounding keeps the order of finite floats through sums, through differences, and through products with what is not below 0.
use Rattle.std.specs.Prelude.{◌≡◌, ℕ, ◌+◌, ◌*◌, ◌≤◌, true, false, T, refl, Float}
use Rattle.std.proofs.Common.{sym, le_trans, le_of_eq, add-le-add, mul_comm, mul-pos, mul-le-mul_right, arith}
use Rattle.std.specs.Float.{nan, inf, fin, Format}
use Rattle.std.specs.Float.Ieee.{neg, add, sub, mul, le, of_bits}
use Rattle.std.specs.Float.Ieee.Positive.{den, den_pos}
use Rattle.std.specs.Float.Ieee.Scale.{finite}
use Rattle.arith.specs.Floats.{f0}
use Rattle.arith.specs.Floats.Order.{plus, minus, sides}
use Rattle.arith.specs.Floats.Rounds.{neg_anti, rounds_mono, sum_plus, sum_minus, add_rounds, mul-rounds}

regroup : (pa da mb db pc dc md dd : ℕ) → (pa * dc + pc * da) * (db * dd) + (mb * dd + md * db) * (da * dc) ≡ (pa * db + mb * da) * (dc * dd) + (pc * dd + md * dc) * (da * db)
regroup pa da mb db pc dc md dd = omega arith

pub add_mono : (f : Format) (a b c d : Float) → T (finite a) → T (finite b) → T (finite c) → T (finite d) → T (le a b) → T (le c d) → T (le (add f a c) (add f b d))
add_mono f a b c d A B C D h k =
    rounds_mono f (add f a c) (sum_plus a c) (sum_minus a c) (den a * den c) (add f b d) (sum_plus b d) (sum_minus b d) (den b * den d) (mul-pos (den_pos a) (den_pos c)) (mul-pos (den_pos b) (den_pos d)) (add_rounds f a c A C) (add_rounds f b d B D)
    (cross (plus a) (minus a) (den a) (plus b) (minus b) (den b) (plus c) (minus c) (den c) (plus d) (minus d) (den d) (sides a b A B h) (sides c d C D k))
  where
    cross : (pa ma da pb mb db pc mc dc pd md dd : ℕ) → pa * db + mb * da ≤ pb * da + ma * db → pc * dd + md * dc ≤ pd * dc + mc * dd
        → (pa * dc + pc * da) * (db * dd) + (mb * dd + md * db) * (da * dc) ≤ (pb * dd + pd * db) * (da * dc) + (ma * dc + mc * da) * (db * dd)
    cross pa ma da pb mb db pc mc dc pd md dd h k =
        le_trans (le_of_eq (regroup pa da mb db pc dc md dd))
        (le_trans (add-le-add (mul-le-mul_right (dc * dd) h) (mul-le-mul_right (da * db) k)) (rw (mul_comm dc dd, mul_comm da db) (le_of_eq (sym (regroup pb db ma da pd dd mc dc)))))

neg_finite : (x : Float) → T (finite x) → T (finite (neg x))
unfolding neg
neg_finite (fin s m e) h = tt
neg_finite nan h = elim h [ ]
neg_finite (inf _) h = elim h [ ]

pub sub_mono : (f : Format) (a b c d : Float) → T (finite a) → T (finite b) → T (finite c) → T (finite d) → T (le a b) → T (le d c) → T (le (sub f a c) (sub f b d))
unfolding sub
sub_mono f a b c d A B C D h k = add_mono f a b (neg c) (neg d) A B (neg_finite c C) (neg_finite d D) h (neg_anti d c k)

no_minus : (c : Float) → T (finite c) → T (le f0 c) → minus c ≡ 0
unfolding of_bits
no_minus (fin false i j) C h = refl
no_minus (fin true i j) C h = omega (arith, sides f0 (fin true i j) tt tt h)
no_minus nan C h = elim C [ ]
no_minus (inf _) C h = elim C [ ]

pub mul_mono : (f : Format) (c x y : Float) → T (finite c) → T (finite x) → T (finite y) → T (le f0 c) → T (le x y) → T (le (mul f c x) (mul f c y))
mul_mono f c x y C X Y z h =
    rounds_mono f (mul f c x) _ _ (den c * den x) (mul f c y) _ _ (den c * den y) (mul-pos (den_pos c) (den_pos x)) (mul-pos (den_pos c) (den_pos y)) (mul-rounds f c x C X) (mul-rounds f c y C Y)
    (rw (no_minus c C z) (omega (arith, mul-le-mul_right (plus c * den c) (sides x y X Y h))))
