use Rattle.std.proofs.Common.{◌^◌, w64, SFits, rules}
use Rattle.std.proofs.lemmas.Int.{to_z-of_z}
use Rattle.stages.proofs.Floors.{floor_low, floor_high, floor_mono}
use Rattle.stages.proofs.reach.Reach.floored.Goals as goal

pub invariant_of-result : goal.invariant_of-result
invariant_of-result c =
    let s = c.args.self.now in
    let from : SFits w64 s.least = search rules in
    let to : SFits w64 s.greatest = search rules in
    let least : SFits w64 c.shifted-least.result = search rules in
    let greatest : SFits w64 c.shifted-greatest.result = search rules in
    let least-is = simp to_z-of_z at c.shifted-least.ensures.value in
    let greatest-is = simp to_z-of_z at c.shifted-greatest.ensures.value in
    simp to_z-of_z (rw (least-is, greatest-is) (record {
      ordered = floor_mono s.least s.greatest c.args.e s.ordered;
      low = floor_low s.least c.args.e (2 ^ 50) s.low;
      high = floor_high s.greatest c.args.e (2 ^ 50) s.high;
    }))
