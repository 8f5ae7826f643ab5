use Rattle.transform.specs.Lone.{Double, Spaced}
use Rattle.transform.proofs.lifting.Lifting.double_lone.Given as goal

abbrev pub invariant-loop-i : goal.invariant-loop-i
invariant-loop-i l = Spaced Double l.lines.start l.lines.apart l.i l.initial.area l.area
