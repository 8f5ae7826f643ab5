use Rattle.std.proofs.Common.{◌≡◌, ◌+◌, ◌*◌, ◌^◌, drop, pos, ◌+ℤ◌, neg_ℤ, ◌≤ℤ◌}
use Rattle.sets.specs.Sets.{rows_of}
use Rattle.stages.specs.Plain.{taps_of}
use Rattle.stages.specs.Quotients.{least_sum, greatest_sum}
use Rattle.stages.proofs.quotient.Quotient.summed.Given as goal

abbrev pub invariant-loop-k : goal.invariant-loop-k
invariant-loop-k l =
    (l.least +ℤ least_sum (drop l.k (taps_of l.self)) (drop l.k (rows_of l.sources)) ≡ least_sum (taps_of l.self) (rows_of l.sources) +ℤ l.self.residue)
    × (l.greatest +ℤ greatest_sum (drop l.k (taps_of l.self)) (drop l.k (rows_of l.sources)) ≡ greatest_sum (taps_of l.self) (rows_of l.sources) +ℤ l.self.residue)
    × (l.least ≤ℤ l.greatest)
    × (neg_ℤ (pos (2 ^ 31 + l.k * 2 ^ 46)) ≤ℤ l.least)
    × (l.greatest ≤ℤ pos (2 ^ 31 + l.k * 2 ^ 46))
