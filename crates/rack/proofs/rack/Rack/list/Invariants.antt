use Rattle.rack.specs.Calls.{Listed}
use Rattle.rack.specs.Of.{meaning}
use Rattle.rack.proofs.rack.Rack.list.Given as goal

abbrev pub invariant-loop-c : goal.invariant-loop-c
invariant-loop-c g l = Listed (meaning g.Self.Stages l.self) l.shape l.number l.c l.initial.list l.list l.n
