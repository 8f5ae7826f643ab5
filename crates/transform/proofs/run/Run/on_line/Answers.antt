use Rattle.std.proofs.Common.{refl, arith}
use Rattle.stages.specs.Plain.{plain_lift}
use Rattle.transform.proofs.Running.{run_served}
use Rattle.transform.proofs.Serving.{served_apart, served_fits, served_turned}
use Rattle.transform.proofs.run.Run.on_line.Goals as goal

pub invariant_of-row-clause-apart : goal.invariant_of-row-clause-apart
invariant_of-row-clause-apart g c =
    let run = c.args.self.now in
    let t = run.turn in
    let on = t.on_lines in
    let served = run_served on.lifting.shape (plain_lift on.lifting.lift) on.lines on.lined run.axis t.parity t.step run.near c.args.line run.start run.count c.sources-from.result
    c.requires.line run.hits (omega arith) (omega arith) c.sources-from.ensures in
    served_apart _ _ _ _ _ on.lined on.many _ _ _ _ _ served

pub turn-requires : goal.turn-requires
turn-requires g c =
    let run = c.args.self.now in
    let t = run.turn in
    let on = t.on_lines in
    let served = run_served on.lifting.shape (plain_lift on.lifting.lift) on.lines on.lined run.axis t.parity t.step run.near c.args.line run.start run.count c.sources-from.result
    c.requires.line run.hits (omega arith) (omega arith) c.sources-from.ensures in
    served_fits _ _ _ _ _ on.lined on.many _ _ served refl _ c.requires.sized

pub returns : goal.returns
returns g c =
    let run = c.args.self.now in
    let t = run.turn in
    let on = t.on_lines in
    let served = run_served on.lifting.shape (plain_lift on.lifting.lift) on.lines on.lined run.axis t.parity t.step run.near c.args.line run.start run.count c.sources-from.result
    c.requires.line run.hits (omega arith) (omega arith) c.sources-from.ensures in
    served_turned _ _ _ _ _ on.lined on.many _ _ served refl _ _ _ c.requires.sized c.turn.ensures
