use Rattle.std.proofs.Common.{sym, ap}
use Rattle.stages.specs.Plain.{plain}
use Rattle.timing.specs.Timed.{timed_stage}
use Rattle.timing.proofs.table.TimedTable.stage.Goals as goal

pub returns-in-2 : goal.returns-in-2
unfolding plain
returns-in-2 c = sym (ap (timed_stage c.args.channels) c.in-2.is)
