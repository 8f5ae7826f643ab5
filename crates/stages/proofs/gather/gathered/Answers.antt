use Rattle.std.proofs.Common.{arith}
use Rattle.stages.proofs.Gathers.{listed_more}
use Rattle.stages.proofs.gather.gathered.Goals as goal

pub loop-i-preserved : goal.loop-i-preserved
loop-i-preserved g c = listed_more _ _ _ _ _ _ (omega arith) c.loop-i.invariant c.in_ok-row.ensures c.push.ensures.answer c.push.ensures.rows
