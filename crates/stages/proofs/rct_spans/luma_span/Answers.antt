use Rattle.std.proofs.Common.{pos, ◌+ℤ◌, ◌*ℤ◌, arith, w32, w64, SFits, rules}
use Rattle.std.proofs.lemmas.Int.{ints, to_z-of_z}
use Rattle.stages.proofs.Floors.{floor_mono}
use Rattle.stages.proofs.rct_spans.luma_span.Goals as goal

pub narrowed-requires : goal.narrowed-requires
narrowed-requires c =
    let a = c.args.a.now in
    let b = c.args.b.now in
    let d = c.args.c.now in
    let rises = floor_mono (a.least +ℤ (pos 2 *ℤ b.least +ℤ d.least)) (a.greatest +ℤ (pos 2 *ℤ b.greatest +ℤ d.greatest)) 2 (omega (arith, ints)) in
    let low-a : SFits w32 a.least = search rules in
    let low-b : SFits w32 b.least = search rules in
    let low-d : SFits w32 d.least = search rules in
    let high-a : SFits w32 a.greatest = search rules in
    let high-b : SFits w32 b.greatest = search rules in
    let high-d : SFits w32 d.greatest = search rules in
    let low : SFits w64 c.luma.result = search rules in
    let high : SFits w64 c.luma-2.result = search rules in
    let low-is = simp to_z-of_z at c.luma.ensures in
    let high-is = simp to_z-of_z at c.luma-2.ensures in
    simp to_z-of_z (rw (low-is, high-is) rises)
