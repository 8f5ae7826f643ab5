use Rattle.std.proofs.Common.{◌-◌}
use Rattle.stages.specs.Plain.{plain_rows}
use Rattle.rules.specs.Mixed.{row_passes}
use Rattle.transform.specs.Turned.{Back}
use Rattle.transform.proofs.dep_rows.DepRows.undo.Given as goal

-- the rows below i are undone
abbrev pub invariant-loop-i : goal.invariant-loop-i
invariant-loop-i l = Back (row_passes l.self.shape l.self.dep.first (plain_rows l.self.dep) (l.i - 1)) l.initial.area l.area
