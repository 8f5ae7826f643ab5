use Rattle.std.proofs.Common.{◌≡◌, ◌^◌, ◌+ℤ◌, ◌-ℤ◌, ap, ◌∙◌, arith, w32, w64, SFits, rules}
use Rattle.std.specs.Int.{int_wrap}
use Rattle.std.proofs.lemmas.Int.{ints, to_z-of_z}
use Rattle.stages.proofs.Floors.{floor_low, floor_high}
use Rattle.stages.specs.Floors.{floor_over}
use Rattle.transform.proofs.rct.middle_of.Goals as goal
use Rattle.transform.proofs.rct.middle_of.Goals.{After-quarter}

-- the quarter is that of the sum, and small
quartered : (c : goal.After-quarter) → (c.quarter.result ≡ floor_over (c.args.one +ℤ c.args.other) 2) × SFits w64 (c.args.luma -ℤ c.quarter.result)
quartered c =
    let a = c.ranges.luma in
    let b = c.ranges.one in
    let d = c.ranges.other in
    let wide-b : SFits w64 c.args.one = omega (arith, ints) in
    let wide-c : SFits w64 c.args.other = omega (arith, ints) in
    let sum : SFits w64 (c.args.one +ℤ c.args.other) = omega (arith, ints) in
    let e : c.quarter.result ≡ floor_over (c.args.one +ℤ c.args.other) 2 = simp to_z-of_z at c.quarter.ensures in
    let low = floor_low (c.args.one +ℤ c.args.other) 2 (2 ^ 32) (omega (arith, ints)) in
    let high = floor_high (c.args.one +ℤ c.args.other) 2 (2 ^ 32) (omega (arith, ints)) in
    (e, rw e (omega (arith, ints)))

pub overflow_sub-luma : goal.overflow_sub-luma
overflow_sub-luma c =
    let q : SFits w64 c.quarter.result = search rules in
    let a = c.ranges.luma in
    let wide-a : SFits w64 c.args.luma = omega (arith, ints) in
    simp to_z-of_z (quartered c).1

pub returns : goal.returns
returns c =
    let e = quartered (goal.at.returns c).After-quarter in
    let q : SFits w64 c.quarter.result = search rules in
    let a = c.ranges.luma in
    let wide-a : SFits w64 c.args.luma = omega (arith, ints) in
    let r : SFits w32 c.low_bits.result = search rules in
    let d : SFits w64 (c.args.luma -ℤ c.quarter.result) = e.1 in
    to_z-of_z w32 _ r ∙ simp to_z-of_z at c.low_bits.ensures ∙ ap (λ z. int_wrap w32 (c.args.luma -ℤ z)) e.0
