use Rattle.std.proofs.Common.{◌+◌, ◌-◌, ◌≤◌, not, eqb}
use Rattle.transform.specs.Turns.{Hits, TurnedAt, from_to}
use Rattle.transform.proofs.turn.Turn.positions.Given as goal

-- the flag as its bits: true is any number but 0
abbrev pub invariant-loop-j : goal.invariant-loop-j
invariant-loop-j g l = (l.from ≤ l.j) × (l.j ≤ l.to + 1) × Hits l.self l.j × TurnedAt (not (eqb g.row.UNDO 0)) l.self (from_to l.self l.from l.j) l.initial.area l.area

abbrev pub decreases-loop-j : goal.decreases-loop-j
decreases-loop-j g l = l.to + 1 - l.j
