use Rattle.std.proofs.Common.{◌≡◌}
use Rattle.sets.specs.Areas.{at, holds, every}
use Rattle.sets.proofs.bounds.Bounds.hold.Given as goal

abbrev pub invariant-loop-x : goal.invariant-loop-x
invariant-loop-x l = l.all ≡ every l.x-index (λ t. holds l.self (at l.samples t))
