use Rattle.std.proofs.Common.{List, ℤ}
use Rattle.transform.specs.Steps.{passes_of}
use Rattle.transform.specs.Turned.{Forth}
use Rattle.transform.proofs.Stepping.{passes_from}
use Rattle.transform.proofs.long_lines.LongLines.apply_steps.Given as goal

-- what the steps that are left make is what all steps make
abbrev pub invariant-loop-k : goal.invariant-loop-k
invariant-loop-k l = (zs : List ℤ) → Forth (passes_from l.self l.k) l.area zs → Forth (passes_of l.self.lifting) l.initial.area zs
