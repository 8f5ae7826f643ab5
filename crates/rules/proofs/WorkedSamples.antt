-- Every worked sample holds.
use Rattle.std.proofs.Common.{◌≡◌, ℤ, pos, negsuc, ◌+ℤ◌, ◌-ℤ◌, ◌*ℤ◌, ◌≤ℤ◌, refl, ap, subst, arith}
use Rattle.std.proofs.lemmas.Int.{ints}
use Rattle.sets.specs.Areas.{area_of, at}
use Rattle.stages.specs.Floors.{floor_over, IsFloor}
use Rattle.stages.specs.Lifting.{stepped, ended}
use Rattle.stages.specs.Lines.{mirror, nearest}
use Rattle.stages.specs.Quotients.{sum_of, quotient_of, end_sum, reach_of}
use Rattle.stages.proofs.Floors.{is_floor}
use Rattle.rules.specs.Lifted.{lift_passes}
use Rattle.rules.specs.Passes.{passed, ran}
use Rattle.rules.specs.Worked.{Worked}

-- an odd number is no double
no_half : (x : ℤ) → x +ℤ x ≡ pos 17 → ⊥
no_half (pos n) e = omega (arith, ints)
no_half (negsuc n) e = omega (arith, ints)

-- both differences are 15 and the floor is 7 at 15, 0 and 15 alone
no_colours : (x y z : ℤ) → x ≤ℤ pos 7 → floor_over (x +ℤ (pos 2 *ℤ y +ℤ z)) 2 ≡ pos 7 → z -ℤ y ≡ pos 15 → x -ℤ y ≡ pos 15 → ⊥
no_colours x y z l e h k = let q = subst (λ n. IsFloor (x +ℤ (pos 2 *ℤ y +ℤ z)) 2 n) e (is_floor _ 2) in omega (arith, ints, q.reached, q.greatest)

pub worked : Worked
unfolding area_of floor_over stepped ended mirror nearest sum_of quotient_of end_sum reach_of lift_passes passed ran
worked = (
  refl,
  (
    refl,
    (
      refl,
      (
        refl,
        (
          refl,
          (
            (λ xs w e. no_half (at xs 0) (ap (λ ys. at ys 0) e)),
            (
              refl,
              (
                (λ xs w e. no_colours (at xs 0) (at xs 1) (at xs 2) (w.inside 0 0 (omega arith) (omega arith)).high (ap (λ ys. at ys 0) e) (ap (λ ys. at ys 1) e) (ap (λ ys. at ys 2) e)),
                (refl, (refl, (refl, (refl, tt)))),
              ),
            ),
          ),
        ),
      ),
    ),
  ),
)
