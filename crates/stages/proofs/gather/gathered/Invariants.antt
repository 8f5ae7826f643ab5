use Rattle.std.proofs.Common.{Some}
use Rattle.stages.specs.Made.{Listed}
use Rattle.stages.proofs.gather.gathered.Given as goal

abbrev pub invariant-loop-i : goal.invariant-loop-i
invariant-loop-i g l = Listed (λ i s. goal.F-post g l.row i (Some s)) l.i l.rows
