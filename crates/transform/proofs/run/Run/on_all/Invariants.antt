use Rattle.std.proofs.Common.{◌+◌, not, eqb}
use Rattle.transform.specs.Parts.{below_channel, both}
use Rattle.transform.specs.Runs.{at_run}
use Rattle.transform.specs.Turns.{TurnedAt}
use Rattle.transform.proofs.run.Run.on_all.Given as goal

abbrev pub invariant-loop-line : goal.invariant-loop-line
invariant-loop-line g l =
    TurnedAt (not (eqb g.row.UNDO 0)) l.self.turn (both (at_run l.self) (below_channel l.self.turn.on_lines.lifting.shape (l.self.turn.on_lines.lifting.lift.first + l.line))) l.initial.area l.area
