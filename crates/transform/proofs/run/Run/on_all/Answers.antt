use Rattle.std.proofs.Common.{◌≡◌, arith}
use Rattle.stages.specs.Plain.{plain_lift, plain_step}
use Rattle.transform.proofs.Running.{runs_more, runs_all}
use Rattle.transform.proofs.run.Run.on_all.Goals as goal

pub loop-line-preserved : goal.loop-line-preserved
loop-line-preserved g c =
    let run = c.args.self.now in
    let t = run.turn in
    let on = t.on_lines in
    runs_more on.lifting.shape (plain_lift on.lifting.lift) on.lines on.lined run.axis t.parity (plain_step t.step) _ _
    _ c.loop-line.line _ _ _ on.lifting.room on.many c.requires c.loop-line.invariant c.on_line.ensures

pub returns : goal.returns
returns g c =
    let run = c.args.self.now in
    let t = run.turn in
    let on = t.on_lines in
    let all : c.loop-line.line ≡ on.lines.line_count = omega arith in
    runs_all on.lifting.shape (plain_lift on.lifting.lift) on.lines on.lined run.axis t.parity (plain_step t.step) _ _ _ _ c.loop-line.area c.requires (rw all at c.loop-line.invariant)
