use Rattle.std.proofs.Common.{◌<◌, ◌≤◌, length, get_or, pos, ◌+ℤ◌, ◌*ℤ◌, sym, ap, refl, ◌∙◌, arith, w16, w64, SFits, rules}
use Rattle.std.proofs.lemmas.List.{length-take}
use Rattle.std.proofs.lemmas.Int.{ints, to_z-of_z}
use Rattle.std.specs.Int.{int_max, int_min}
use Rattle.sets.specs.Sets.{rows_of}
use Rattle.stages.specs.Plain.{taps_of}
use Rattle.stages.proofs.Sums.{end_more, end_all}
use Rattle.stages.proofs.quotient.Quotient.summed.Goals as goal
use Rattle.stages.proofs.quotient.Quotient.summed.Goals.{After-weighed-part}

-- there are at most eight taps
few : (c : After-weighed-part) → c.loop-k.k < 8
few c = let q = c.args.self.now in let count = ap length c.taps-tap-items.ensures ∙ length-take q.tap_count q.taps in omega (arith, c.loop-k-test.true)

pub overflow_add-least : goal.overflow_add-least
overflow_add-least c =
    let k = few (goal.at.overflow_add-least c).After-weighed-part in
    let low : SFits w64 c.weighed-part.result.least = search rules in
    simp (c.loop-k.least-is, to_z-of_z) (omega (arith, ints))

pub overflow_add-greatest : goal.overflow_add-greatest
overflow_add-greatest c =
    let k = few (goal.at.overflow_add-greatest c).After-weighed-part in
    let high : SFits w64 c.weighed-part.result.greatest = search rules in
    simp (c.loop-k.greatest-is, to_z-of_z) (omega (arith, ints))

pub loop-k-preserved : goal.loop-k-preserved
loop-k-preserved c =
    let taps = taps_of c.args.self.now in
    let rows = rows_of c.args.sources.now in
    let k = c.loop-k.k in
    let part = c.weighed-part.result in
    let items = c.taps-tap-items.ensures in
    let few = few (goal.at.loop-k-preserved c).After-weighed-part in
    let below : k < length taps = rw (sym items) c.loop-k-test.true in
    let tap : SFits w16 (get_or c.taps-tap-items.result.now k (pos 0)) = search rules in
    let low : SFits w64 part.least = search rules in
    let high : SFits w64 part.greatest = search rules in
    let row = c.row_at.ensures.value in
    let least = simp to_z-of_z at c.weighed-part.ensures.least in
    let greatest = simp to_z-of_z at c.weighed-part.ensures.greatest in
    let small_low : SFits w64 (c.loop-k.least +ℤ part.least) = omega (arith, ints) in
    let small-high : SFits w64 (c.loop-k.greatest +ℤ part.greatest) = omega (arith, ints) in
    simp (c.loop-k.least-is, c.loop-k.greatest-is, to_z-of_z) (
      end_more int_min refl taps rows k c.loop-k.least part.least _ below (least ∙ (λ i. int_min (get_or (items i) k (pos 0) *ℤ (row i).least) (get_or (items i) k (pos 0) *ℤ (row i).greatest))) (simp c.loop-k.least-is at c.loop-k.invariant.0),
      end_more int_max refl taps rows k c.loop-k.greatest part.greatest _ below (greatest ∙ (λ i. int_max (get_or (items i) k (pos 0) *ℤ (row i).least) (get_or (items i) k (pos 0) *ℤ (row i).greatest))) (simp c.loop-k.greatest-is at c.loop-k.invariant.1),
      omega (arith, ints),
      omega (arith, ints),
      omega (arith, ints),
    )

pub returns : goal.returns
returns c =
    let q = c.args.self.now in
    let rows = rows_of c.args.sources.now in
    let over : length (taps_of q) ≤ c.loop-k.k = rw (sym c.taps-tap-items.ensures) c.loop-k-test.false in
    record {
      least = end_all int_min refl (taps_of q) rows c.loop-k.k _ _ over c.loop-k.invariant.0;
      greatest = end_all int_max refl (taps_of q) rows c.loop-k.k _ _ over c.loop-k.invariant.1;
    }
