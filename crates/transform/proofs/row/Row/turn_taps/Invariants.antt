use Rattle.std.proofs.Common.{◌*◌, not, eqb}
use Rattle.transform.specs.Rowed.{Rowed}
use Rattle.transform.proofs.row.Row.turn_taps.Given as goal

-- the flag as its bits: true is any number but 0
abbrev pub invariant-loop-i : goal.invariant-loop-i
invariant-loop-i g l = Rowed (not (eqb g.row.UNDO 0)) l.self (2 * l.i) l.initial.area l.area
