use Rattle.transform.specs.Lone.{Half, Spaced}
use Rattle.transform.proofs.lifting.Lifting.halve_lone.Given as goal

abbrev pub invariant-loop-i : goal.invariant-loop-i
invariant-loop-i l = Spaced Half l.lines.start l.lines.apart l.i l.initial.area l.area
