use Rattle.std.proofs.Common.{◌+◌, ◌^◌, ◌<◌, ◌≤◌, length, get_or, pos, ◌+ℤ◌, ◌*ℤ◌, sym, ap, ◌∙◌, arith, w16, w32, w64, SFits, rules}
use Rattle.std.proofs.lemmas.List.FromFn.{get_or-map-range_with_len}
use Rattle.std.proofs.lemmas.List.{get_or-take, length-take}
use Rattle.std.proofs.lemmas.Int.{ints, to_z-of_z}
use Rattle.sets.specs.Areas.{at}
use Rattle.stages.proofs.Floors.{floor_low, floor_high}
use Rattle.stages.specs.Floors.{floor_over}
use Rattle.stages.specs.Plain.{taps_of}
use Rattle.stages.specs.Quotients.{quotient_of}
use Rattle.transform.proofs.Rows.{reads_at}
use Rattle.transform.proofs.Sums.{sum_more, sum_all}
use Rattle.transform.proofs.row.Row.quotient_at.Goals as goal

pub loop-k-preserved : goal.loop-k-preserved
loop-k-preserved g c =
    let q = c.args.self.now.quotient in
    let xs = c.args.area.now in
    let from = c.args.self.now.from in
    let k = c.loop-k.k in
    let here : k < q.tap_count = omega arith in
    let below : k < length (taps_of q) = simp length-take (omega arith) in
    let tap : SFits w16 (get_or q.taps k (pos 0)) = search rules in
    let sample : SFits w32 (at xs (get_or from k 0 + c.args.shift)) = search rules in
    let part : SFits w64 c.product-sum.result = search rules in
    let small : SFits w64 (c.loop-k.sum +ℤ c.product-sum.result) = omega (arith, ints) in
    let t = sym (get_or-take q.tap_count q.taps k (pos 0) here) in
    let x = sym (get_or-map-range_with_len (λ j. at xs (get_or from j 0 + c.args.shift)) 0 q.tap_count k k (pos 0) here (omega arith)) in
    let value = simp to_z-of_z at c.product-sum.ensures.value in
    simp (c.loop-k.sum-is, to_z-of_z) (
      sum_more (taps_of q) (reads_at q xs from c.args.shift) k c.loop-k.sum c.product-sum.result _ below (value ∙ (λ i. t i *ℤ x i)) (simp c.loop-k.sum-is at c.loop-k.invariant.0),
      omega (arith, ints),
      omega (arith, ints),
    )

pub returns : goal.returns
unfolding quotient_of
returns g c =
    let q = c.args.self.now.quotient in
    let over : length (taps_of q) ≤ c.loop-k.k = simp length-take (omega arith) in
    let r : SFits w64 c.floor.result = search rules in
    let s = sum_all (taps_of q) (reads_at q c.args.area.now c.args.self.now.from c.args.shift) c.loop-k.k _ _ over c.loop-k.invariant.0 in
    let e = to_z-of_z w64 _ r ∙ c.floor.ensures.value in
    record {
      value = e ∙ ap (λ z. floor_over z q.exponent) s;
      low = rw e (floor_low _ q.exponent (2 ^ 50) (omega (arith, ints)));
      high = rw e (floor_high _ q.exponent (2 ^ 50) (omega (arith, ints)));
    }
