use Rattle.std.proofs.Common.{◌≡◌, sym, ◌∙◌, subst}
use Rattle.sets.specs.Sets.{rows_of}
use Rattle.stages.specs.Floors.{floor_over}
use Rattle.stages.specs.Made.{between, wide_of}
use Rattle.stages.specs.Plain.{taps_of}
use Rattle.stages.specs.Quotients.{reach_of, Extremes}
use Rattle.stages.proofs.Extremes.{reach_extremes, rows_rising}
use Rattle.stages.proofs.quotient.Quotient.reach.Goals as goal

pub returns : goal.returns
unfolding reach_of
returns c =
    let q = c.args.self.now in
    let bs = rows_of c.args.sources.now in
    let sum = c.summed.ensures in
    let is : wide_of c.floored.result ≡ reach_of (taps_of q) q.residue q.exponent bs = c.floored.ensures ∙ (λ i. between (floor_over (sum.least i) q.exponent) (floor_over (sum.greatest i) q.exponent)) in
    record { value = is; extremes = subst (Extremes (taps_of q) q.residue q.exponent bs) (sym is) (reach_extremes (taps_of q) q.residue q.exponent bs (rows_rising c.args.sources.now)) }
