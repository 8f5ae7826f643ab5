use Rattle.std.proofs.Common.{w32, SFits, arith, rules}
use Rattle.std.proofs.lemmas.Int.{ints}
use Rattle.stages.proofs.stage.Step.source_index.Goals as goal

pub returns : goal.returns
returns c =
    let index = c.from.ensures in
    let offset = c.from-2.ensures in
    let tap = c.from-3.ensures in
    let other = c.number-other.ensures in
    let wide : SFits w32 c.args.self.now.offset = search rules in
    let low = c.ranges.index in
    let few = c.ranges.tap in
    record { value = omega (arith, ints); low = omega (arith, ints); high = omega (arith, ints) }
