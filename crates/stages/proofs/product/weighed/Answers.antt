use Rattle.std.proofs.Common.{◌≡◌, ◌∙◌, arith, w64, SFits, to_z, of_z, rules}
use Rattle.std.specs.Int.{int_max, int_min}
use Rattle.std.proofs.lemmas.Int.{ints, clamps, to_z-of_z}
use Rattle.stages.proofs.product.weighed.Goals as goal
use Rattle.stages.proofs.product.weighed.Goals.{After-max}

-- what stands in the answer, by its bits: the least and the greatest of the products
ends : (c : After-max) → (to_z w64 (of_z w64 c.min.result) ≡ int_min c.product-low.result c.product-high.result) × (to_z w64 (of_z w64 c.max.result) ≡ int_max c.product-low.result c.product-high.result)
ends c =
    let p : SFits w64 c.product-low.result = search rules in
    let q : SFits w64 c.product-high.result = search rules in
    let m : SFits w64 c.min.result = search rules in
    let n : SFits w64 c.max.result = search rules in
    (to_z-of_z w64 _ m ∙ simp to_z-of_z at c.min.ensures.value, to_z-of_z w64 _ n ∙ simp to_z-of_z at c.max.ensures.value)

pub invariant_of-result : goal.invariant_of-result
invariant_of-result c =
    let e = ends c in
    let p = c.product-low.ensures in
    let q = c.product-high.ensures in
    record { ordered = rw (e.0, e.1) (omega (arith, ints, clamps)); low = rw e.0 (omega (arith, ints, clamps)); high = rw e.1 (omega (arith, ints, clamps)) }

pub returns-clause-low : goal.returns-clause-low
returns-clause-low c = let e = ends (goal.at.returns-clause-low c).After-max in let p = c.product-low.ensures in let q = c.product-high.ensures in rw e.0 (omega (arith, ints, clamps))

pub returns-clause-high : goal.returns-clause-high
returns-clause-high c = let e = ends (goal.at.returns-clause-high c).After-max in let p = c.product-low.ensures in let q = c.product-high.ensures in rw e.1 (omega (arith, ints, clamps))
