use Rattle.stages.specs.Plain.{plain_lift, plain_steps}
use Rattle.transform.proofs.LiftWork.{steps_applied, doubling_applied}
use Rattle.transform.proofs.lift_work.LiftWork.apply.Goals as goal

pub returns-in-Many : goal.returns-in-Many
returns-in-Many c s w inside =
    let l = c.args.self.now in
    steps_applied c.args.shape.now (plain_lift l) (plain_steps l) s w c.in-Many.ensures _ _ inside (rw c.long_lines.ensures at c.apply_steps.ensures)

pub returns-in-LoneOdd : goal.returns-in-LoneOdd
returns-in-LoneOdd c s w inside =
    let l = c.args.self.now in
    let kind = c.in-LoneOdd.ensures in
    doubling_applied c.args.shape.now (plain_lift l) (plain_steps l) s w kind.0 kind.1 _ _ inside c.double_lone.ensures
