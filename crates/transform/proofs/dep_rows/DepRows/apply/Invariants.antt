use Rattle.std.proofs.Common.{◌-◌, List, ℤ}
use Rattle.stages.specs.Plain.{plain_rows}
use Rattle.rules.specs.Mixed.{row_passes}
use Rattle.transform.specs.Turned.{Forth}
use Rattle.transform.proofs.dep_rows.DepRows.apply.Given as goal

-- what the rows that are left make is what all rows make
abbrev pub invariant-loop-i : goal.invariant-loop-i
invariant-loop-i l =
    (zs : List ℤ) → Forth (row_passes l.self.shape l.self.dep.first (plain_rows l.self.dep) (l.i - 1)) l.area zs → Forth (row_passes l.self.shape l.self.dep.first (plain_rows l.self.dep) (l.self.dep.count - 1)) l.initial.area zs
