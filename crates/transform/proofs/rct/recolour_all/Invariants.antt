use Rattle.std.proofs.Common.{not, eqb}
use Rattle.transform.specs.Colours.{Recoloured}
use Rattle.transform.proofs.rct.recolour_all.Given as goal

-- the flag as its bits: true is any number but 0
abbrev pub invariant-loop-t : goal.invariant-loop-t
invariant-loop-t g l = Recoloured (not (eqb g.row.UNDO 0)) l.p l.q l.r l.t l.initial.area l.area
