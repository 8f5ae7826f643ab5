use Rattle.std.proofs.Common.{◌≡◌, drop}
use Rattle.sets.specs.Sets.{rows_of}
use Rattle.stages.specs.Lifting.{walked, ended}
use Rattle.stages.specs.Plain.{plain_steps}
use Rattle.stages.specs.Ranges.{all_fit}
use Rattle.stages.specs.Slots.{slot_of}
use Rattle.stages.proofs.line.Line.walk.Given as goal

abbrev pub invariant-loop-step : goal.invariant-loop-step
invariant-loop-step l =
    (all_fit (walked (slot_of l.self) l.parity (drop l.step-index (plain_steps l.lift)) (rows_of l.reached)) ≡ all_fit (walked (slot_of l.self) l.lift.parity (plain_steps l.lift) (rows_of l.slots)))
    × (ended (slot_of l.self) l.parity (drop l.step-index (plain_steps l.lift)) (rows_of l.reached) ≡ ended (slot_of l.self) l.lift.parity (plain_steps l.lift) (rows_of l.slots))
