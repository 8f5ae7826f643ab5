use Rattle.std.proofs.Common.{◌+ℤ◌, arith, w32, w64, SFits, rules}
use Rattle.std.proofs.lemmas.Int.{ints, to_z-of_z}
use Rattle.stages.proofs.ranges.raise.Goals as goal

pub returns : goal.returns
returns c =
    let s = c.args.span.now in
    let b = c.args.by.now in
    let low : SFits w32 s.least = search rules in
    let high : SFits w32 s.greatest = search rules in
    let wide_low : SFits w64 s.least = omega (arith, ints) in
    let wide_high : SFits w64 s.greatest = omega (arith, ints) in
    let by-low : SFits w64 b.least = search rules in
    let by_high : SFits w64 b.greatest = search rules in
    let sum_low : SFits w64 (s.least +ℤ b.least) = omega (arith, ints) in
    let sum-high : SFits w64 (s.greatest +ℤ b.greatest) = omega (arith, ints) in
    simp (to_z-of_z, c.from.ensures, c.from-2.ensures) at c.narrowed.ensures
