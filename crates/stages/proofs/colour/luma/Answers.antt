use Rattle.std.proofs.Common.{pos, ◌+ℤ◌, ◌*ℤ◌, ◌∙◌, arith, w64, SFits, rules}
use Rattle.std.proofs.lemmas.Int.{ints, to_z-of_z}
use Rattle.stages.proofs.colour.luma.Goals as goal

pub returns : goal.returns
returns c =
    let a = c.ranges.a in
    let b = c.ranges.b in
    let d = c.ranges.c in
    let wide-a : SFits w64 c.args.a = omega (arith, ints) in
    let wide-b : SFits w64 c.args.b = omega (arith, ints) in
    let wide-c : SFits w64 c.args.c = omega (arith, ints) in
    let twice : SFits w64 (pos 2 *ℤ c.args.b) = omega (arith, ints) in
    let part : SFits w64 (pos 2 *ℤ c.args.b +ℤ c.args.c) = omega (arith, ints) in
    let sum : SFits w64 (c.args.a +ℤ (pos 2 *ℤ c.args.b +ℤ c.args.c)) = omega (arith, ints) in
    let r : SFits w64 c.quarter.result = search rules in
    to_z-of_z w64 _ r ∙ simp (to_z-of_z, c.from.ensures, c.from-2.ensures, c.from-3.ensures) at c.quarter.ensures

pub overflow_add-from-2 : goal.overflow_add-from-2
overflow_add-from-2 c = omega (arith, ints, c.from.ensures, c.from-2.ensures, c.from-3.ensures, c.ranges.a, c.ranges.b, c.ranges.c)
