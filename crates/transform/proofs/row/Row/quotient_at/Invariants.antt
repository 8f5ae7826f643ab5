use Rattle.std.proofs.Common.{◌≡◌, ◌+◌, ◌*◌, ◌^◌, drop, pos, ◌+ℤ◌, neg_ℤ, ◌≤ℤ◌}
use Rattle.stages.specs.Plain.{taps_of}
use Rattle.stages.specs.Quotients.{sum_of}
use Rattle.transform.proofs.Rows.{reads_at}
use Rattle.transform.proofs.row.Row.quotient_at.Given as goal

abbrev pub invariant-loop-k : goal.invariant-loop-k
invariant-loop-k g l =
    (l.sum +ℤ sum_of (drop l.k (taps_of l.self.quotient)) (drop l.k (reads_at l.self.quotient l.area l.self.from l.shift)) ≡ sum_of (taps_of l.self.quotient) (reads_at l.self.quotient l.area l.self.from l.shift) +ℤ l.self.quotient.residue)
    × (neg_ℤ (pos (2 ^ 31 + l.k * 2 ^ 46)) ≤ℤ l.sum)
    × (l.sum ≤ℤ pos (2 ^ 31 + l.k * 2 ^ 46))
